-- Goals as they are written.
use Rattle.std.specs.Prelude.{ℕ, List, [], ◌∷◌}
use Rattle.ap_trees.specs.Terms.{Term}

pub data Goal : Type 0 where
  Atom : List ℕ → List Term → Goal
  Equation : Term → Term → Goal
  Freshness : Term → Term → Goal
  Both : Goal → Goal → Goal
  Either : Goal → Goal → Goal
  Some_variable : List ℕ → Goal → Goal
  New_name : List ℕ → Goal → Goal

-- the first goal with the rest on its right, grouped to the right
abbrev pub joined_goals : (Goal → Goal → Goal) → Goal → List Goal → Goal
joined_goals join g [] = g
joined_goals join g (h ∷ gs) = join g (joined_goals join h gs)
