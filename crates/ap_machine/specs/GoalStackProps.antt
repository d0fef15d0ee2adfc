-- That cells are linked is a fact with one proof at most.
use Rattle.std.proofs.Common.{ℕ, suc, List, [], ◌∷◌}
use mathlib.Core.HLevel.{Unit-prop}
use Rattle.std.proofs.Props.{props}
use Rattle.ap_machine.specs.GoalStacks.{AreLinked}
use Rattle.ap_machine.specs.declared.frames.Cell.{Cell}

pub linked_prop : (n : ℕ) (cs : List Cell) → IsProp (AreLinked n cs)
linked_prop n [] = Unit-prop
linked_prop n (c ∷ cs) = let h : IsProp (AreLinked (suc n) cs) = linked_prop (suc n) cs in hlevel (props, h)
