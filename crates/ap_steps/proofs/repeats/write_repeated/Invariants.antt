use Rattle.std.proofs.Common.{◌≡◌, ◌++◌}
use Rattle.ap_steps.specs.Depths.{repeated}
use Rattle.ap_steps.proofs.repeats.write_repeated.Given as goal

abbrev pub invariant-loop-turn : goal.invariant-loop-turn
invariant-loop-turn l = l.out.items ≡ l.initial.out.items ++ repeated l._turn l.text
