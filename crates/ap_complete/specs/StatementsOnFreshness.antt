-- What is proved of names that are fresh.
use Rattle.std.specs.Prelude.{◌≡◌, ℕ, true, List, [], ◌∷◌, map, Some}
use Rattle.ap_defs.specs.declared.terms.Name.{Name}
use Rattle.ap_defs.specs.Alpha.{fresh}
use Rattle.ap_defs.specs.Derivations.{GroundProof}
use Rattle.ap_defs.specs.Goals.{NominalClause, NominalProgram, clauses_of}
use Rattle.ap_defs.specs.GroundProofs.{AlphaEach, Instantiates, IsValid, clause_at, environment, instance}
use Rattle.ap_defs.specs.Permutations.{has_name}
use Rattle.ap_defs.specs.Resolution.{kinds_of}
use Rattle.ap_defs.specs.Terms.{GroundTerm}
use Rattle.ap_defs.specs.Types.{NominalConstructor, NominalType}
use Rattle.ap_defs.specs.Typing.{IsOfType}
use Rattle.ap_complete.specs.Restriction.{KeepsRestriction}
use Rattle.ap_types.specs.Holding.{MayHold}

-- a ground term of a type that can't hold the sort of a name has no such name free
abbrev pub SortsNotHeldAreFresh : Type 0
SortsNotHeldAreFresh = (cs : List NominalConstructor) (g : GroundTerm) (t : NominalType) (a : Name) → IsOfType cs g t → (MayHold cs t a.sort → ⊥) → fresh a g ≡ true

-- the name is fresh for each of the terms
abbrev pub FreshForTerms : Name → List GroundTerm → Type 0
FreshForTerms a [] = Unit {0}
FreshForTerms a (g ∷ gs) = (fresh a g ≡ true) × FreshForTerms a gs

-- where the head of a clause is equal to an atom's arguments and its body has a ground proof, the names that it is used with are fresh for these arguments
abbrev pub ClauseNamesAreFresh : Type 0
ClauseNamesAreFresh = (p : NominalProgram) → KeepsRestriction p → (q k : ℕ) (c : NominalClause) → clause_at (clauses_of p.clauses q) k ≡ Some c
    → (names : List Name) (gs : List GroundTerm) → Instantiates p.signature.constructors c.locals names gs
    → (proof : GroundProof) → IsValid p (kinds_of c.locals) proof c.body (environment c.locals names gs)
    → (ts : List GroundTerm) → AlphaEach ts (map (instance (environment c.locals names gs)) c.args)
    → (a : Name) → has_name a names ≡ true → FreshForTerms a ts
