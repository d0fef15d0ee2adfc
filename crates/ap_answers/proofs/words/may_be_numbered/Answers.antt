use Rattle.std.proofs.Common.{arith}
use Rattle.ap_answers.proofs.NumberedLemmas.{unlike_short}
use Rattle.ap_answers.proofs.words.may_be_numbered.Goals as goal

pub returns-then-word-letter : goal.returns-then-word-letter
returns-then-word-letter c = λ e n m. unlike_short c.args.letter.now c.args.word.now n (omega arith) m
