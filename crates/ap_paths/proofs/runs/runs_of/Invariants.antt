use Rattle.std.proofs.Common.{◌≡◌, ◌++◌, length}
use Rattle.std.specs.Vec.Iter.{into_iter_items, into_iter_len}
use Rattle.ap_defs.specs.Answers.{outs_of}
use Rattle.ap_paths.specs.Runs.{outs_of_runs}
use Rattle.ap_paths.proofs.runs.runs_of.Given as goal

abbrev pub invariant-loop-out : goal.invariant-loop-out
invariant-loop-out l =
    (outs_of_runs l.runs.items ++ outs_of (into_iter_items l.out-iterator) ≡ outs_of (into_iter_items l.initial.out-iterator))
    × (into_iter_len l.out-iterator ≡ length (into_iter_items l.out-iterator))
