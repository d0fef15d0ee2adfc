use Rattle.std.proofs.Common.{◌≡◌, ◌++◌, length}
use Rattle.std.specs.Vec.Iter.{into_iter_items, into_iter_len}
use Rattle.ap_play.specs.Stages.{hands_of, deques_of}
use Rattle.ap_play.proofs.playing.rows_of.Given as goal

abbrev pub invariant-loop-worker : goal.invariant-loop-worker
invariant-loop-worker l = (l.hands.items ++ hands_of (into_iter_items l.worker-iterator) ≡ hands_of (into_iter_items l.initial.worker-iterator))
    × (l.deques.items ++ deques_of (into_iter_items l.worker-iterator) ≡ deques_of (into_iter_items l.initial.worker-iterator))
    × (into_iter_len l.worker-iterator ≡ length (into_iter_items l.worker-iterator))
