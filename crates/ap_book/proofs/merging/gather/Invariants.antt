use Rattle.std.proofs.Common.{◌≡◌, [], length}
use Rattle.std.specs.Vec.Iter.{into_iter_items, into_iter_len}
use Rattle.ap_book.specs.Values.{ended_from}
use Rattle.ap_book.proofs.merging.gather.Given as goal

abbrev pub invariant-loop-entry : goal.invariant-loop-entry
invariant-loop-entry l = (ended_from l.endings (into_iter_items l.entry-iterator) ≡ ended_from [] (into_iter_items l.initial.entry-iterator)) × (into_iter_len l.entry-iterator ≡ length (into_iter_items l.entry-iterator))
