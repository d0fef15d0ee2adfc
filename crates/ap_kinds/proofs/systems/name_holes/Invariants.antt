-- The holes so far and those of the rest are all.
use Rattle.std.proofs.Common.{◌≡◌, ◌++◌, drop}
use Rattle.ap_kinds.specs.Systems.{name_holes}
use Rattle.ap_kinds.proofs.systems.name_holes.Given as goal

abbrev pub invariant-loop-i : goal.invariant-loop-i
invariant-loop-i l = l.holes.items ++ name_holes l.i (drop l.i l.idents) ≡ name_holes 0 l.idents
