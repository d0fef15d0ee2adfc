use Rattle.std.proofs.Common.{◌≡◌, ◌++◌, length}
use Rattle.std.specs.Vec.Iter.{into_iter_items, into_iter_len}
use Rattle.ap_defs.specs.Answers.{outs_of}
use Rattle.ap_paths.specs.Runs.{outs_of_runs}
use Rattle.ap_paths.proofs.runs.outs_in_full.Given as goal

abbrev pub invariant-loop-run : goal.invariant-loop-run
invariant-loop-run l =
    (outs_of l.outs.items ++ outs_of_runs (into_iter_items l.run-iterator) ≡ outs_of_runs (into_iter_items l.initial.run-iterator))
    × (into_iter_len l.run-iterator ≡ length (into_iter_items l.run-iterator))
