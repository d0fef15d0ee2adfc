-- With the words that are left those so far are all.
use Rattle.std.proofs.Common.{◌≡◌, drop}
use Rattle.ap_answers.specs.Locals.{lent_texts}
use Rattle.ap_spelling.specs.Spelt.{last_of}
use Rattle.ap_spelling.specs.Words.{kept_words}
use Rattle.ap_steps.proofs.spellings.keep_each.Given as goal

abbrev pub invariant-loop-i : goal.invariant-loop-i
invariant-loop-i l = kept_words (lent_texts (drop l.i l.words)) (last_of l.last) ≡ kept_words (lent_texts l.words) (last_of l.initial.last)
