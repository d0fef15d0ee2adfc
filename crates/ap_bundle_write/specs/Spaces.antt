-- The words of a line behind its first.
use Rattle.std.specs.Prelude.{ℕ, List, ◌∷◌}
use Rattle.std.specs.List.{flat_map}
use Rattle.ap_bundle.specs.declared.words.Word.{Word}
use Rattle.ap_bundle.specs.Words.{word_text}

-- words, each behind a space
abbrev pub spaced : List Word → List ℕ
spaced ws = flat_map (λ w. 32 ∷ word_text w) ws
