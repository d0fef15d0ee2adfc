-- Numbers of names and variables that are below a bound, before and after renaming.
use Rattle.std.proofs.Common.{◌+◌, ◌<◌, ◌≤◌, ℕ, true, false, List, [], ◌∷◌, ◌++◌, map, arith}
use Rattle.std.specs.Prelude.{if◌then◌else◌}
use Rattle.ap_defs.specs.Freshness.{var_eq}
use Rattle.ap_defs.specs.Goals.{NominalGoal, succeed, atom, equal, fresh, both, either, exists, new}
use Rattle.ap_defs.specs.Occurrences.{free_vars, vars_of_terms, without_var}
use Rattle.ap_defs.specs.Renaming.{AreBelow, AreSwapsBelow, IsBelow, IsGoalBelow, rename_goal, rename_swap, rename_term}
use Rattle.ap_defs.specs.Terms as terms
use Rattle.ap_defs.specs.Terms.{NominalTerm}
use Rattle.ap_defs.specs.Unification.{vars_then}
use Rattle.ap_defs.specs.declared.terms.Swap.{Swap}
use Rattle.ap_defs.specs.declared.terms.Var.{Var}

-- What is below n is below any greater number.
module _ (m n : ℕ) (l : n ≤ m) where
  pub swaps_below_more : (p : List Swap) → AreSwapsBelow n p → AreSwapsBelow m p
  swaps_below_more [] h = tt
  swaps_below_more (s ∷ p) h = (omega arith, omega arith, swaps_below_more p h.2)

  pub below_more : (t : NominalTerm) → IsBelow n t → IsBelow m t
  below_more terms.unit h = tt
  below_more (terms.name a) h = omega arith
  below_more (terms.pair t u) h = (below_more t h.0, below_more u h.1)
  below_more (terms.app f t) h = below_more t h
  below_more (terms.abs a t) h = (omega arith, below_more t h.1)
  below_more (terms.susp p x) h = (swaps_below_more p h.0, omega arith)

  pub are_below_more : (ts : List NominalTerm) → AreBelow n ts → AreBelow m ts
  are_below_more [] h = tt
  are_below_more (t ∷ ts) h = (below_more t h.0, are_below_more ts h.1)

  pub goal_below_more : (g : NominalGoal) → IsGoalBelow n g → IsGoalBelow m g
  goal_below_more succeed h = tt
  goal_below_more (atom p ts) h = are_below_more ts h
  goal_below_more (equal t u) h = (below_more t h.0, below_more u h.1)
  goal_below_more (fresh t u) h = (below_more t h.0, below_more u h.1)
  goal_below_more (both f g) h = (goal_below_more f h.0, goal_below_more g h.1)
  goal_below_more (either f g) h = (goal_below_more f h.0, goal_below_more g h.1)
  goal_below_more (exists x g) h = (omega arith, goal_below_more g h.1)
  goal_below_more (new a g) h = (omega arith, goal_below_more g h.1)

-- What is below n is below m + n once it is renamed by m.
module _ (m n : ℕ) where
  pub swaps_renamed_below : (p : List Swap) → AreSwapsBelow n p → AreSwapsBelow (m + n) (map (rename_swap m) p)
  swaps_renamed_below [] h = tt
  swaps_renamed_below (s ∷ p) h = (omega arith, omega arith, swaps_renamed_below p h.2)

  pub renamed_below : (t : NominalTerm) → IsBelow n t → IsBelow (m + n) (rename_term m t)
  renamed_below terms.unit h = tt
  renamed_below (terms.name a) h = omega arith
  renamed_below (terms.pair t u) h = (renamed_below t h.0, renamed_below u h.1)
  renamed_below (terms.app f t) h = renamed_below t h
  renamed_below (terms.abs a t) h = (omega arith, renamed_below t h.1)
  renamed_below (terms.susp p x) h = (swaps_renamed_below p h.0, omega arith)

  pub are_renamed_below : (ts : List NominalTerm) → AreBelow n ts → AreBelow (m + n) (map (rename_term m) ts)
  are_renamed_below [] h = tt
  are_renamed_below (t ∷ ts) h = (renamed_below t h.0, are_renamed_below ts h.1)

  pub goal_renamed_below : (g : NominalGoal) → IsGoalBelow n g → IsGoalBelow (m + n) (rename_goal m g)
  goal_renamed_below succeed h = tt
  goal_renamed_below (atom p ts) h = are_renamed_below ts h
  goal_renamed_below (equal t u) h = (renamed_below t h.0, renamed_below u h.1)
  goal_renamed_below (fresh t u) h = (renamed_below t h.0, renamed_below u h.1)
  goal_renamed_below (both f g) h = (goal_renamed_below f h.0, goal_renamed_below g h.1)
  goal_renamed_below (either f g) h = (goal_renamed_below f h.0, goal_renamed_below g h.1)
  goal_renamed_below (exists x g) h = (omega arith, goal_renamed_below g h.1)
  goal_renamed_below (new a g) h = (omega arith, goal_renamed_below g h.1)

-- The variables of what is below n.
abbrev pub AreVarsBelow : ℕ → List Var → Type 0
AreVarsBelow n [] = Unit {0}
AreVarsBelow n (x ∷ xs) = (x.num < n) × AreVarsBelow n xs

module _ (n : ℕ) where
  pub vars_below-append : (xs ys : List Var) → AreVarsBelow n xs → AreVarsBelow n ys → AreVarsBelow n (xs ++ ys)
  vars_below-append [] ys h k = k
  vars_below-append (x ∷ xs) ys h k = (h.0, vars_below-append xs ys h.1 k)

  pub vars_then_below : (t : NominalTerm) (xs : List Var) → IsBelow n t → AreVarsBelow n xs → AreVarsBelow n (vars_then t xs)
  vars_then_below terms.unit xs h k = k
  vars_then_below (terms.name a) xs h k = k
  vars_then_below (terms.pair t u) xs h k = vars_then_below t (vars_then u xs) h.0 (vars_then_below u xs h.1 k)
  vars_then_below (terms.app f t) xs h k = vars_then_below t xs h k
  vars_then_below (terms.abs a t) xs h k = vars_then_below t xs h.1 k
  vars_then_below (terms.susp p x) xs h k = (h.1, k)

  pub vars_of_terms_below : (ts : List NominalTerm) → AreBelow n ts → AreVarsBelow n (vars_of_terms ts)
  vars_of_terms_below [] h = tt
  vars_of_terms_below (t ∷ ts) h = vars_then_below t (vars_of_terms ts) h.0 (vars_of_terms_below ts h.1)

  without_var_below : (x : Var) (ys : List Var) → AreVarsBelow n ys → AreVarsBelow n (without_var x ys)
  without_var_below x [] h = tt
  without_var_below x (y ∷ ys) h =
      elim (var_eq x y) as (λ b. AreVarsBelow n (if b then without_var x ys else (y ∷ without_var x ys))) [
        | true ↦ without_var_below x ys h.1
        | false ↦ (h.0, without_var_below x ys h.1)
      ]

  pub free_vars_below : (g : NominalGoal) → IsGoalBelow n g → AreVarsBelow n (free_vars g)
  free_vars_below succeed h = tt
  free_vars_below (atom p ts) h = vars_of_terms_below ts h
  free_vars_below (equal t u) h = vars_then_below t (vars_then u []) h.0 (vars_then_below u [] h.1 tt)
  free_vars_below (fresh t u) h = vars_then_below t (vars_then u []) h.0 (vars_then_below u [] h.1 tt)
  free_vars_below (both f g) h = vars_below-append (free_vars f) (free_vars g) (free_vars_below f h.0) (free_vars_below g h.1)
  free_vars_below (either f g) h = vars_below-append (free_vars f) (free_vars g) (free_vars_below f h.0) (free_vars_below g h.1)
  free_vars_below (exists x g) h = without_var_below x (free_vars g) (free_vars_below g h.1)
  free_vars_below (new a g) h = free_vars_below g h.1
