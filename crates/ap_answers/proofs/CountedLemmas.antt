-- Words of a letter with all numbers from 1 on.
use Rattle.std.proofs.Common.{◌≡◌, ℕ, zero, suc, ◌+◌, ◌<◌, ◌≤◌, ◌^◌, List, [], ◌∷◌, ◌++◌, length, take, refl, sym, ap, ◌∙◌, arith}
use Rattle.std.specs.Prelude.{None, Some, slice_get}
use Rattle.std.specs.List.{range_with_len}
use Rattle.std.specs.Fmt.{decimal}
use Rattle.ap_defs.specs.Printing.{new_words}
use Rattle.ap_answers.specs.Spelled.{text_at}
use Rattle.ap_answers.specs.Words.{NoneNumbered, counted_words, numbered_words}
use Rattle.ap_answers.proofs.SpellingLemmas.{numbered_past, numbered_there}
use Rattle.ap_answers.proofs.WordLemmas.{rest_of_words}

range_there : (first n i : ℕ) → i < n → slice_get (range_with_len first n) i ≡ Some (first + i)
range_there first zero i l = absurd (omega arith)
range_there first (suc n) zero l = let same : first ≡ first + zero = omega arith in ap Some same
range_there first (suc n) (suc i) l = let same : first + 1 + i ≡ first + suc i = omega arith in range_there (first + 1) n i (omega (arith, l)) ∙ ap Some same

range_past : (first n i : ℕ) → n ≤ i → slice_get (range_with_len first n) i ≡ None
range_past first zero i l = refl
range_past first (suc n) zero l = absurd (omega arith)
range_past first (suc n) (suc i) l = range_past (first + 1) n i (omega (arith, l))

pub counted_there : (letter : List ℕ) (n i : ℕ) → i < n → text_at (counted_words letter n) (Some i) ≡ letter ++ decimal (i + 1)
counted_there letter n i l =
    let same : 1 + i ≡ i + 1 = omega arith in
    numbered_there letter (range_with_len 1 n) i (i + 1) (range_there 1 n i l ∙ ap Some same)

pub counted_past : (letter : List ℕ) (n i : ℕ) → n ≤ i → text_at (counted_words letter n) (Some i) ≡ []
counted_past letter n i l = numbered_past letter (range_with_len 1 n) i (range_past 1 n i l)

-- none is left out
all_rest : (letter : List ℕ) (words : List (List ℕ)) (i n : ℕ) → NoneNumbered letter words → i + n ≤ 2 ^ 64 → rest_of_words letter words i n ≡ numbered_words letter (range_with_len i n)
all_rest letter words i zero h l = refl
all_rest letter words i (suc n) h l =
    rw (h i (omega (arith, l))) (ap (λ (ws : List (List ℕ)). (letter ++ decimal i) ∷ ws) (all_rest letter words (i + 1) n h (omega (arith, l))))

taken_none : (ws : List (List ℕ)) → take zero ws ≡ []
taken_none [] = refl
taken_none (w ∷ ws) = refl

firsts : (letter : List ℕ) (i n m k : ℕ) → k ≡ n + m → take n (numbered_words letter (range_with_len i k)) ≡ numbered_words letter (range_with_len i n)
firsts letter i zero m k e = taken_none (numbered_words letter (range_with_len i k))
firsts letter i (suc n) m zero e = absurd (omega arith)
firsts letter i (suc n) m (suc k) e = ap (λ (ws : List (List ℕ)). (letter ++ decimal i) ∷ ws) (firsts letter (i + 1) n m k (omega (arith, e)))

pub counted_new : (letter : List ℕ) (words : List (List ℕ)) (n : ℕ) → NoneNumbered letter words → n + length words < 2 ^ 64 → counted_words letter n ≡ new_words letter words n
counted_new letter words n h l =
    sym (ap (take n) (all_rest letter words 1 (n + length words) h (omega (arith, l))) ∙ firsts letter 1 n (length words) (n + length words) refl)
