-- A word is in the set, or among those that are left, exactly where it is among all.
use Rattle.std.proofs.Common.{◌≡◌, ℕ, List, drop, true}
use Rattle.std.specs.Prelude.{if◌then◌else◌}
use Rattle.ap_defs.specs.Printing.{has_word}
use Rattle.ap_answers.specs.Words.{knows}
use Rattle.ap_answers.proofs.words.word_set.Given as goal

abbrev pub invariant-loop-word : goal.invariant-loop-word
invariant-loop-word l = (w : List ℕ) → (if knows l.set w then true else has_word w (drop l.word-index l.words)) ≡ has_word w l.words
