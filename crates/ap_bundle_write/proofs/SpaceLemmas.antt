-- A line is its first word and the others behind spaces.
use Rattle.std.proofs.Common.{◌≡◌, List, [], ◌∷◌, ◌++◌, map, ap, sym}
use Rattle.std.proofs.lemmas.List.{append-nil}
use Rattle.std.specs.List.{join_with_byte}
use Rattle.ap_bundle.specs.declared.words.Word.{Word}
use Rattle.ap_bundle.specs.Words.{word_text}
use Rattle.ap_bundle_write.specs.Spaces.{spaced}

pub joined : (w : Word) (ws : List Word) → join_with_byte 32 (map word_text (w ∷ ws)) ≡ word_text w ++ spaced ws
joined w [] = sym (append-nil (word_text w))
joined w (v ∷ ws) = ap (λ rest. word_text w ++ (32 ∷ rest)) (joined v ws)
