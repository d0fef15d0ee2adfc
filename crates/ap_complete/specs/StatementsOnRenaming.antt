-- What is proved of exchanging names in ground proofs.
use Rattle.std.specs.Prelude.{ℕ, List, length}
use Rattle.ap_defs.specs.Derivations.{GroundProof}
use Rattle.ap_defs.specs.Goals.{NominalGoal, NominalProgram}
use Rattle.ap_defs.specs.GroundProofs.{Environment, IsValid}
use Rattle.ap_defs.specs.Types.{NominalKind}
use Rattle.ap_complete.specs.NumberedProofs.{kinds_in}
use Rattle.ap_complete.specs.RenamedProofs.{IsReady, IsRenamed}
use Rattle.ap_complete.specs.Restriction.{KeepsRestriction}

-- in each clause that is used, and at each `new`, the names can be exchanged for those that a search takes there
abbrev pub ProofsAreRenamed : Type 0
ProofsAreRenamed = (p : NominalProgram) → KeepsRestriction p → (kinds : List NominalKind) (n m : ℕ) (g : NominalGoal) (e : Environment) (proof : GroundProof)
    → IsReady p kinds n m (length (kinds_in p g proof)) g e → IsValid p kinds proof g e → IsRenamed p kinds n m g e proof
