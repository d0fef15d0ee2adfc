-- A parenthesis is written for each swapping.
use Rattle.std.proofs.Common.{◌≡◌, ◌++◌}
use Rattle.std.specs.Prelude.{replicate}
use Rattle.ap_answers.proofs.beginnings.write_suspension.Given as goal

abbrev pub invariant-loop-swap : goal.invariant-loop-swap
invariant-loop-swap l = l.out.items ≡ l.initial.out.items ++ replicate l._swap-index 41
