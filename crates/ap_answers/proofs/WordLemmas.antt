-- Generated words, and sets of words.
use Rattle.std.proofs.Common.{◌≡◌, ℕ, suc, ◌+◌, ◌-◌, ◌<◌, ◌≤◌, Bool, true, false, cond, List, [], ◌∷◌, ◌++◌, map, length, take, drop, get_or, refl, sym, ap, ap₂, ◌∙◌, arith, add-one, drop-cons, append_assoc, ◌&&◌, ◌≢◌, nat_eq, length-append}
use Rattle.std.proofs.lemmas.List.{append-nil}
use Rattle.std.proofs.lemmas.Bool.Decides.{nat_tests}
use Rattle.std.specs.Prelude.{if◌then◌else◌, filter, not}
use Rattle.std.specs.List.{range_with_len}
use Rattle.std.specs.Fmt.{decimal}
use Rattle.std.specs.Str.{bytes_eq}
use Rattle.ap_defs.specs.Printing.{has_word}

-- the words from the number i on that are not taken, of n that are left to try
abbrev pub rest_of_words : List ℕ → List (List ℕ) → ℕ → ℕ → List (List ℕ)
rest_of_words letter words i n = filter (λ w. not (has_word w words)) (map (λ k. letter ++ decimal k) (range_with_len i n))

same_numbers : (x y : ℕ) → nat_eq x y ≡ nat_eq y x
same_numbers x y = grind (arith, nat_tests)

same_bytes : (v w : List ℕ) → bytes_eq v w ≡ bytes_eq w v
same_bytes [] [] = refl
same_bytes [] (y ∷ ys) = refl
same_bytes (x ∷ xs) [] = refl
same_bytes (x ∷ xs) (y ∷ ys) = ap₂ (λ p q. p && q) (same_numbers x y) (same_bytes xs ys)

known_by : (k e h r : Bool) → (if k then true else (if e then true else h)) ≡ r → (if cond e true k then true else h) ≡ r
known_by true true h r i = i
known_by true false h r i = i
known_by false true h r i = i
known_by false false h r i = i

-- one word more in the set
pub known_next : (ws : List (List ℕ)) (v w : List ℕ) (i : ℕ) (old new all : Bool) → i < length ws → v ≡ get_or ws i v
    → (if old then true else has_word w (drop i ws)) ≡ all → new ≡ cond (bytes_eq v w) true old → (if new then true else has_word w (drop (i + 1) ws)) ≡ all
known_next ws v w i old new all h e invariant is =
    let front : drop i ws ≡ v ∷ drop (suc i) ws = drop-cons ws i v h ∙ ap (λ (x : List ℕ). x ∷ drop (suc i) ws) (sym e) in
    let was : (if old then true else (if bytes_eq w v then true else has_word w (drop (suc i) ws))) ≡ all = ap (λ us. if old then true else has_word w us) (sym front) ∙ invariant in
    rw (is, add-one i, same_bytes v w) (known_by old (bytes_eq w v) (has_word w (drop (suc i) ws)) all was)

pub known_all : (old r : Bool) → (if old then true else false) ≡ r → old ≡ r
known_all true r e = e
known_all false r e = e

tried : (b : Bool) (count : ℕ) (made made1 rest all : List (List ℕ)) (w : List ℕ) → length made < count → made1 ≡ made ++ cond (not b) (w ∷ []) []
    → made ++ take (count - length made) (cond (not b) (w ∷ rest) rest) ≡ all → (made1 ++ take (count - length made1) rest ≡ all) × (length made1 ≤ count)
tried true count made made1 rest all w l e h = rw (e, append-nil made) (h, omega arith)
tried false count made made1 rest all w l e h =
    let longer : length made1 ≡ length made + 1 = ap length e ∙ length-append made (w ∷ []) in
    let step : count - length made ≡ suc (count - length made1) = omega arith in
    let split : made ++ (w ∷ take (count - length made1) rest) ≡ all = ap (λ n. made ++ take n (w ∷ rest)) (sym step) ∙ h in
    (ap (λ (us : List (List ℕ)). us ++ take (count - length made1) rest) e ∙ append_assoc made (w ∷ []) (take (count - length made1) rest) ∙ split, omega arith)

-- one number more
pub tried_next : (letter : List ℕ) (words : List (List ℕ)) (known : List ℕ → Bool) (count i n m : ℕ) (made made1 all : List (List ℕ)) → ((w : List ℕ) → known w ≡ has_word w words)
    → n ≡ suc m → length made ≤ count → length made ≢ count → made1 ≡ made ++ filter (λ w. not (known w)) ((letter ++ decimal i) ∷ [])
    → made ++ take (count - length made) (rest_of_words letter words i n) ≡ all
    → (made1 ++ take (count - length made1) (rest_of_words letter words (i + 1) m) ≡ all) × (length made1 ≤ count)
tried_next letter words known count i n m made made1 all same s few wanting e h =
    tried (has_word (letter ++ decimal i) words) count made made1 (rest_of_words letter words (i + 1) m) all (letter ++ decimal i) (omega arith)
    (rw (same (letter ++ decimal i)) at e) (rw s at h)
