use Rattle.std.proofs.Common.{arith}
use Rattle.ap_answers.proofs.NumberedLemmas.{none_left, none_next}
use Rattle.ap_answers.proofs.words.none_numbered.Goals as goal

pub loop-word-preserved : goal.loop-word-preserved
loop-word-preserved c =
    none_next c.args.letter.now c.args.words.now c.loop-word.word-index c.word-item.result (omega arith) c.word-item.is
    (λ n m. rw c.as_str.ensures at (c.may_be_numbered.ensures c.if-may_be_numbered.false n m)) c.loop-word.invariant

pub returns : goal.returns
returns c = λ e. c.loop-word.invariant (none_left c.args.letter.now c.args.words.now c.loop-word.word-index (omega arith))
