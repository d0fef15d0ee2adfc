-- What is written so far, and what is kept, are all.
use Rattle.std.proofs.Common.{◌≡◌, ◌++◌, vec_len}
use Rattle.std.specs.Prelude.{reverse}
use Rattle.ap_answers.proofs.beginnings.write_closers.Given as goal

abbrev pub invariant-loop-closer : goal.invariant-loop-closer
invariant-loop-closer l = l.out.items ++ reverse l.closers.items ≡ l.fn.out.items ++ reverse l.fn.closers.items

abbrev pub decreases-loop-closer : goal.decreases-loop-closer
decreases-loop-closer l = vec_len l.closers
