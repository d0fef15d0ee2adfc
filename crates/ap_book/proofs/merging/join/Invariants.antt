use Rattle.std.proofs.Common.{◌≡◌, ◌++◌, length}
use Rattle.std.specs.Vec.Iter.{into_iter_items, into_iter_len}
use Rattle.ap_book.specs.Values.{all_values}
use Rattle.ap_book.proofs.merging.join.Given as goal

abbrev pub invariant-loop-path : goal.invariant-loop-path
invariant-loop-path l = (l.all.items ++ all_values (into_iter_items l.path-iterator) ≡ all_values (into_iter_items l.initial.path-iterator)) × (into_iter_len l.path-iterator ≡ length (into_iter_items l.path-iterator))
