-- With the words that are left those so far are all.
use Rattle.std.proofs.Common.{◌≡◌, map, length}
use Rattle.ap_defs.specs.Types.{constructor_of}
use Rattle.ap_spelling.specs.Spelt.{last_of}
use Rattle.ap_spelling.specs.Words.{kept_words}
use Rattle.ap_steps.specs.Spelling.{text_of_constructor}
use Rattle.ap_steps.proofs.spellings.keep_constructors.Given as goal

abbrev pub invariant-constructors : goal.invariant-constructors
invariant-constructors l =
    kept_words (map text_of_constructor (map constructor_of l.rest)) (last_of l.last) ≡ kept_words (map text_of_constructor (map constructor_of l.fn.constructors)) (last_of l.fn.last)

abbrev pub decreases-constructors : goal.decreases-constructors
decreases-constructors l = length l.rest
