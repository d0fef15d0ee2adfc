-- Programs that are typed and keep the name restriction.
use Rattle.ap_defs.specs.Goals.{NominalProgram}
use Rattle.ap_program.specs.NameRestriction.{AreRestrictedLists}
use Rattle.ap_program.specs.Typed.{IsTypedProgram}

-- The program is typed by its kinds, and each clause's free names are fresh for its head.
pub record KeepsRestriction (p : NominalProgram) : Type 0 where
  pub typed : IsTypedProgram p
  pub names : AreRestrictedLists p.signature.constructors p.clauses
