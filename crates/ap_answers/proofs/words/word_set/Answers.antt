use Rattle.std.proofs.Common.{arith}
use Rattle.ap_answers.specs.Words.{knows}
use Rattle.ap_answers.proofs.WordLemmas.{known_next}
use Rattle.ap_answers.proofs.words.word_set.Goals as goal

pub loop-word-preserved : goal.loop-word-preserved
loop-word-preserved c = λ w.
    known_next c.args.words.now c.word-item.result w c.loop-word.word-index (knows c.loop-word.set w) (knows c.insert.new.self w) _ (omega arith) c.word-item.is (c.loop-word.invariant w)
    (rw c.as_str.ensures at (c.in_ok-insert.ensures.updates.0 (record { ref_ptr = (0, 0); now = w })))
