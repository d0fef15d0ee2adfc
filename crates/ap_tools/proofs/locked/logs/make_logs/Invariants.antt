use Rattle.std.proofs.Common.{◌≡◌, ◌++◌, length}
use Rattle.std.specs.Vec.Iter.{into_iter_items, into_iter_len}
use Rattle.ap_tools.specs.Noting.{lists_of}
use Rattle.ap_tools.proofs.locked.logs.make_logs.Given as goal

abbrev pub invariant-loop-log : goal.invariant-loop-log
invariant-loop-log l = (l.logs.items ++ lists_of (into_iter_items l.log-iterator) ≡ lists_of (into_iter_items l.initial.log-iterator)) × (into_iter_len l.log-iterator ≡ length (into_iter_items l.log-iterator))
