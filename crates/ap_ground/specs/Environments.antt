-- Environments that agree, and permutations that act on environments and ground proofs.
use Rattle.std.specs.Prelude.{◌≡◌, true, List, map}
use Rattle.ap_defs.specs.declared.terms.Name.{Name}
use Rattle.ap_defs.specs.declared.terms.Swap.{Swap}
use Rattle.ap_defs.specs.declared.terms.Var.{Var}
use Rattle.ap_defs.specs.Alpha.{alpha}
use Rattle.ap_defs.specs.Derivations.{GroundProof, atom, equal, fresh, succeed, both, left, right, exists, new}
use Rattle.ap_defs.specs.Goals.{NominalGoal}
use Rattle.ap_defs.specs.GroundProofs.{Environment}
use Rattle.ap_defs.specs.Occurrences.{free_names, free_vars}
use Rattle.ap_defs.specs.Permutations.{act_name, has_name}
use Rattle.ap_defs.specs.Terms.{act_ground}
use Rattle.ap_defs.specs.Unification.{has_var}

-- the same names for these names
abbrev pub SameNames : Environment → Environment → List Name → Type 0
SameNames e f as' = (b : Name) → has_name b as' ≡ true → e.names b ≡ f.names b

-- equal terms for these variables
abbrev pub SameTermsFor : Environment → Environment → List Var → Type 0
SameTermsFor e f xs = (x : Var) → has_var x xs ≡ true → alpha (e.terms x) (f.terms x) ≡ true

-- the environments agree on what is free in the goal
pub record AgreeOn (g : NominalGoal) (e f : Environment) : Type 0 where
  pub names : (b : Name) → has_name b (free_names g) ≡ true → e.names b ≡ f.names b
  pub terms : (x : Var) → has_var x (free_vars g) ≡ true → alpha (e.terms x) (f.terms x) ≡ true

-- the name for a name has its sort
abbrev pub KeepsSorts : Environment → Type 0
KeepsSorts e = (a : Name) → (e.names a).sort ≡ a.sort

abbrev pub act_environment : List Swap → Environment → Environment
act_environment s e = record { names = λ a. act_name s (e.names a); terms = λ x. act_ground s (e.terms x) }

-- a permutation acts on each name and each term of a ground proof
abbrev pub act_proof : List Swap → GroundProof → GroundProof
act_proof s (atom k as' gs d) = atom k (map (act_name s) as') (map (act_ground s) gs) (act_proof s d)
act_proof s equal = equal
act_proof s fresh = fresh
act_proof s succeed = succeed
act_proof s (both d e) = both (act_proof s d) (act_proof s e)
act_proof s (left d) = left (act_proof s d)
act_proof s (right d) = right (act_proof s d)
act_proof s (exists g d) = exists (act_ground s g) (act_proof s d)
act_proof s (new c d) = new (act_name s c) (act_proof s d)
