-- If none of the words that are left is numbered, none is.
use Rattle.std.proofs.Common.{drop}
use Rattle.ap_answers.specs.Words.{NoneNumbered}
use Rattle.ap_answers.proofs.words.none_numbered.Given as goal

abbrev pub invariant-loop-word : goal.invariant-loop-word
invariant-loop-word l = NoneNumbered l.letter (drop l.word-index l.words) → NoneNumbered l.letter l.words
