use Rattle.std.proofs.Common.{◌≡◌, ◌++◌}
use Rattle.ap_paths.specs.Ends.{ends_in}
use Rattle.ap_paths.proofs.endings.Endings.into_vec.Given as goal

abbrev pub invariant-loop-choices : goal.invariant-loop-choices
invariant-loop-choices l = l.all.items ++ ends_in l.choices-iterator ≡ ends_in l.initial.choices-iterator
