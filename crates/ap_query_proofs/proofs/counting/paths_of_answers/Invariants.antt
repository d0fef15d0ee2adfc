-- The paths so far, and those among the outputs that are left, are all.
use Rattle.std.proofs.Common.{◌≡◌, ◌++◌, length}
use Rattle.std.specs.Vec.Iter.{into_iter_items, into_iter_len}
use Rattle.ap_defs.specs.Answers.{outs_of}
use Rattle.ap_query_proofs.specs.CountedPaths.{answer_paths}
use Rattle.ap_query_proofs.proofs.counting.paths_of_answers.Given as goal

abbrev pub invariant-loop-out : goal.invariant-loop-out
invariant-loop-out l = record {
  made : l.paths.items ++ answer_paths (outs_of (into_iter_items l.out-iterator)) ≡ answer_paths (outs_of (into_iter_items l.initial.out-iterator));
  count : into_iter_len l.out-iterator ≡ length (into_iter_items l.out-iterator);
}
