-- That numbers were given is a fact with one proof at most.
use Rattle.std.proofs.Common.{ℕ, List, [], ◌∷◌}
use mathlib.Core.HLevel.{Unit-prop}
use Rattle.std.proofs.Props.{props}
use Rattle.ap_defs.specs.declared.terms.Swap.{Swap}
use Rattle.ap_defs.specs.Goals.{NominalGoal, succeed, atom, equal, fresh, both, either, exists, new}
use Rattle.ap_defs.specs.Renaming.{AreBelow, AreSwapsBelow, IsBelow, IsGoalBelow}
use Rattle.ap_defs.specs.Terms.{NominalTerm, unit, name, pair, app, abs, susp}
use Rattle.ap_search.specs.Continuations.{Waiting}
use Rattle.ap_machine.specs.Below.{AreWaitingBelow}

swaps_prop : (n : ℕ) (p : List Swap) → IsProp (AreSwapsBelow n p)
swaps_prop n [] = Unit-prop
swaps_prop n (s ∷ p) = let h : IsProp (AreSwapsBelow n p) = swaps_prop n p in hlevel (props, h)

term_prop : (n : ℕ) (t : NominalTerm) → IsProp (IsBelow n t)
term_prop n unit = Unit-prop
term_prop n (name a) = hlevel props
term_prop n (pair t u) = let h : IsProp (IsBelow n t) = term_prop n t in let k : IsProp (IsBelow n u) = term_prop n u in hlevel (props, h, k)
term_prop n (app f t) = term_prop n t
term_prop n (abs a t) = let h : IsProp (IsBelow n t) = term_prop n t in hlevel (props, h)
term_prop n (susp p x) = let h : IsProp (AreSwapsBelow n p) = swaps_prop n p in hlevel (props, h)

terms_prop : (n : ℕ) (ts : List NominalTerm) → IsProp (AreBelow n ts)
terms_prop n [] = Unit-prop
terms_prop n (t ∷ ts) = let h : IsProp (IsBelow n t) = term_prop n t in let k : IsProp (AreBelow n ts) = terms_prop n ts in hlevel (props, h, k)

goal_prop : (n : ℕ) (g : NominalGoal) → IsProp (IsGoalBelow n g)
goal_prop n succeed = Unit-prop
goal_prop n (atom p ts) = terms_prop n ts
goal_prop n (equal t u) = let h : IsProp (IsBelow n t) = term_prop n t in let k : IsProp (IsBelow n u) = term_prop n u in hlevel (props, h, k)
goal_prop n (fresh t u) = let h : IsProp (IsBelow n t) = term_prop n t in let k : IsProp (IsBelow n u) = term_prop n u in hlevel (props, h, k)
goal_prop n (both g h) = let i : IsProp (IsGoalBelow n g) = goal_prop n g in let k : IsProp (IsGoalBelow n h) = goal_prop n h in hlevel (props, i, k)
goal_prop n (either g h) = let i : IsProp (IsGoalBelow n g) = goal_prop n g in let k : IsProp (IsGoalBelow n h) = goal_prop n h in hlevel (props, i, k)
goal_prop n (exists x g) = let h : IsProp (IsGoalBelow n g) = goal_prop n g in hlevel (props, h)
goal_prop n (new a g) = let h : IsProp (IsGoalBelow n g) = goal_prop n g in hlevel (props, h)

pub waiting_prop : (n : ℕ) (ws : List Waiting) → IsProp (AreWaitingBelow n ws)
waiting_prop n [] = Unit-prop
waiting_prop n (w ∷ ws) = let h : IsProp (IsGoalBelow n w.goal) = goal_prop n w.goal in let k : IsProp (AreWaitingBelow n ws) = waiting_prop n ws in hlevel (props, h, k)
