-- None before this one is spelled so.
use Rattle.std.proofs.Common.{◌≡◌, drop}
use Rattle.std.specs.Prelude.{find}
use Rattle.std.specs.Str.{bytes_eq}
use Rattle.ap_bundle.specs.Words.{letter_text, letters}
use Rattle.ap_bundle_read.proofs.words.letter.Given as goal

abbrev pub invariant-loop-letter : goal.invariant-loop-letter
invariant-loop-letter l = find (λ k. bytes_eq (letter_text k) l.text) (drop l.letter-index letters) ≡ find (λ k. bytes_eq (letter_text k) l.text) letters
