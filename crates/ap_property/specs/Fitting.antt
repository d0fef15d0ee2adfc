-- Ground terms that fit a query: they have the types of its free variables, and known names.
use Rattle.std.specs.Prelude.{◌≡◌, ◌⊎◌, ◌+◌, ℕ, true, List, [], ◌∷◌, length, Some, slice_get}
use Rattle.ap_defs.specs.declared.terms.Name.{Name}
use Rattle.ap_defs.specs.GroundProofs.{AreOfTypes}
use Rattle.ap_defs.specs.Permutations.{has_name}
use Rattle.ap_defs.specs.Renaming.{local_names, local_vars}
use Rattle.ap_defs.specs.Resolution.{kinds_of}
use Rattle.ap_defs.specs.Terms.{GroundTerm}
use Rattle.ap_defs.specs.Types.{NominalConstructor, NominalLocal}
use Rattle.ap_picks.specs.StatementsOnPicks.{EachName}
use Rattle.ap_property.specs.Stated.{Instance}

-- the name is a free name of the query, or one of those that are numbered on from its identifiers, with the sort at its place
abbrev pub IsKnown : List NominalLocal → List ℕ → Name → Type 0
IsKnown locals sorts a = (has_name a (local_names 0 locals) ≡ true) ⊎ ((k : ℕ) × (a.num ≡ length locals + k) × (slice_get sorts k ≡ Some a.sort))

abbrev pub HaveKnownNames : List NominalLocal → List ℕ → List GroundTerm → Type 0
HaveKnownNames locals sorts [] = Unit {0}
HaveKnownNames locals sorts (g ∷ gs) = EachName (IsKnown locals sorts) g × HaveKnownNames locals sorts gs

pub record FitsLocals (cs : List NominalConstructor) (locals : List NominalLocal) (i : Instance) : Type 0 where
  pub types : AreOfTypes cs (kinds_of locals) (local_vars 0 locals) i.terms
  pub names : HaveKnownNames locals i.sorts i.terms
