-- A set of words that are lent, and what is known of words that are generated.
use Rattle.std.specs.Prelude.{◌≡◌, ℕ, ◌≤◌, ◌<◌, ◌^◌, ◌++◌, Bool, true, false, List, map, filter, not, codes, decimal, length}
use Rattle.std.specs.Str.{bytes_eq}
use Rattle.std.specs.List.{range_with_len}
use Rattle.std.specs.HashSet.{HashSet, contains_by}
use Rattle.ap_defs.specs.Printing.{has_word}
use Rattle.ap_answers.specs.declared.words.Free.{Free}
use Rattle.ap_answers.specs.declared.words.Taken.{Taken}
use denote.Ref.{Bor}

abbrev pub knows : {S : Type 0} → HashSet (Bor (List ℕ)) S → List ℕ → Bool
knows set w = contains_by (λ k. bytes_eq w k.now) set

-- the numbers from i on, of n, with which a letter is no word
abbrev pub free_numbers : List ℕ → List (List ℕ) → ℕ → ℕ → List ℕ
free_numbers letter words i n = filter (λ k. not (has_word (letter ++ decimal k) words)) (range_with_len i n)

-- the words of a letter with these numbers
abbrev pub numbered_words : List ℕ → List ℕ → List (List ℕ)
numbered_words letter numbers = map (λ k. letter ++ decimal k) numbers

-- the words of a letter with 1, 2, 3 and so on, so many
abbrev pub counted_words : List ℕ → ℕ → List (List ℕ)
counted_words letter n = numbered_words letter (range_with_len 1 n)

-- no word is the letter with a number behind it
abbrev pub NoneNumbered : List ℕ → List (List ℕ) → Type 0
NoneNumbered letter words = (n : ℕ) → n < 2 ^ 64 → has_word (letter ++ decimal n) words ≡ false

abbrev pub AreFree : List ℕ → List (List ℕ) → Free → Type 0
AreFree letter words f = (f.numbers.items ≡ free_numbers letter words 1 f.tried) × (f.tried ≤ length words) × (f.none_taken ≡ true → NoneNumbered letter words)

-- these are the words of the text
abbrev pub IsTaken : List (List ℕ) → Taken → Type 0
IsTaken words t = ((w : List ℕ) → knows t.words w ≡ has_word w words) × AreFree (codes "n") words t.names × AreFree (codes "_") words t.vars
