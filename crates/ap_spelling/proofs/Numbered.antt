-- Words with numbers behind them.
use Rattle.std.proofs.Common.{◌≡◌, ◌≢◌, ◌≤◌, ◌<◌, ◌+◌, ◌-◌, ◌^◌, ◌==◌, ℕ, zero, suc, Bool, true, false, List, [], ◌∷◌, ◌++◌, length, refl, sym, ap, ◌∙◌, subst, arith, true≢false, append_assoc}
use Rattle.std.specs.Prelude.{if◌then◌else◌, codes, slice_get, unwrap_or}
use Rattle.std.specs.Fmt.{decimal}
use Rattle.std.specs.Str.{bytes_eq}
use Rattle.std.specs.Str.Parse.{AllDigits}
use Rattle.std.proofs.lemmas.Bool.Decides.{Decides-eqb, nat_tests}
use Rattle.std.proofs.lemmas.Fmt.{decimal_injective, decimal_is_IsNumeral}
use Rattle.std.proofs.lemmas.List.{append-nil, append_cancel_left, append_cancel_right}
use Rattle.std.proofs.lemmas.Str.Parse.{digit_from_value}
use Rattle.ap_defs.specs.Printing.{has_word}
use Rattle.ap_spelling.specs.Differing.{AllDiffer}
use Rattle.ap_spelling.specs.Words.{base, is_digit, word_with_number, last_byte, number_after, number_from}
use Rattle.ap_spelling.proofs.WordLists.{is_not, no_more, same_word}

-- what stands between a word and a number
abbrev joint : Bool → List ℕ
joint b = if b then codes "_" else []

pub same_number : (w : List ℕ) (n m : ℕ) → n < 2 ^ 64 → m < 2 ^ 64 → word_with_number w n ≡ word_with_number w m → n ≡ m
same_number w n m a b e =
    let j = joint (is_digit (last_byte w)) in
    let behind : j ++ decimal n ≡ j ++ decimal m = append_cancel_left w (j ++ decimal n) (j ++ decimal m) e in
    decimal_injective n m a b (append_cancel_left j (decimal n) (decimal m) behind)

-- a word with so many numbers behind it, from one on
abbrev pub numbered : List ℕ → ℕ → ℕ → List (List ℕ)
numbered w n zero = []
numbered w n (suc k) = word_with_number w n ∷ numbered w (suc n) k

-- A word with one of these numbers.
pub record HasNumber (w u : List ℕ) (n k : ℕ) : Type 0 where
  pub number : ℕ
  pub from : n ≤ number
  pub below : number < n + k
  pub is : u ≡ word_with_number w number

among_by : (w u : List ℕ) (n k : ℕ) (b : Bool) → bytes_eq u (word_with_number w n) ≡ b → (if b then true else has_word u (numbered w (suc n) k)) ≡ true
    → (has_word u (numbered w (suc n) k) ≡ true → HasNumber w u (suc n) k) → HasNumber w u n (suc k)
among_by w u n k true e h more = record { number = n; from = omega arith; below = omega arith; is = same_word u (word_with_number w n) e }
among_by w u n k false e h more =
    let i = more h in
    let from = i.from in
    let below = i.below in
    record { number = i.number; from = omega (arith, from); below = omega (arith, below); is = i.is }

pub among : (w u : List ℕ) (n k : ℕ) → has_word u (numbered w n k) ≡ true → HasNumber w u n k
among w u n zero h = absurd (true≢false (sym h))
among w u n (suc k) h = among_by w u n k (bytes_eq u (word_with_number w n)) refl h (among w u (suc n) k)

pub numbered_differ : (w : List ℕ) (n k : ℕ) → n + k ≤ 2 ^ 64 → AllDiffer (numbered w n k)
numbered_differ w n zero h = tt
numbered_differ w n (suc k) h = (is_not (has_word (word_with_number w n) (numbered w (suc n) k)) twice, numbered_differ w (suc n) k (omega (arith, h)))
  where
    twice : has_word (word_with_number w n) (numbered w (suc n) k) ≡ true → ⊥
    twice i =
        let other = among w (word_with_number w n) (suc n) k i in
        let from = other.from in
        let below = other.below in
        let same : n ≡ other.number = same_number w n other.number (omega (arith, h)) (omega (arith, h, below)) other.is in
        omega (arith, from, same)

pub numbered_count : (w : List ℕ) (n k : ℕ) → length (numbered w n k) ≡ k
numbered_count w n zero = refl
numbered_count w n (suc k) = ap suc (numbered_count w (suc n) k)

-- so many numbers that are taken are no more than what takes them
pub numbers_taken : (w : List ℕ) (ws : List (List ℕ)) (n k : ℕ) → n + k ≤ 2 ^ 64 → ((i : ℕ) → n ≤ i → i < n + k → has_word (word_with_number w i) ws ≡ true) → k ≤ length ws
numbers_taken w ws n k h taken =
    let few = no_more (numbered w n k) ws (numbered_differ w n k h) there in
    let count = numbered_count w n k in
    omega (arith, few, count)
  where
    there : (u : List ℕ) → has_word u (numbered w n k) ≡ true → has_word u ws ≡ true
    there u i = let a = among w u n k i in subst (λ v. has_word v ws ≡ true) (sym a.is) (taken a.number a.from a.below)

pub next_small : (n : ℕ) → n + 1 < 2 ^ 64 → number_after n ≡ n + 1
next_small n h = omega (arith, h)

-- What a search for a number finds: those before it are taken, and it is free where fewer than all were tried.
record IsFirst (words : List (List ℕ)) (w : List ℕ) (n k m : ℕ) : Type 0 where
  from : n ≤ m
  most : m ≤ n + k
  taken : (i : ℕ) → n ≤ i → i < m → has_word (word_with_number w i) words ≡ true
  free : m < n + k → has_word (word_with_number w m) words ≡ false

taken_by : (words : List (List ℕ)) (w : List ℕ) (n m : ℕ) → has_word (word_with_number w n) words ≡ true → ((i : ℕ) → n + 1 ≤ i → i < m → has_word (word_with_number w i) words ≡ true)
    → (i : ℕ) (b : Bool) → (n == i) ≡ b → n ≤ i → i < m → has_word (word_with_number w i) words ≡ true
taken_by words w n m first more i true e a b = subst (λ j. has_word (word_with_number w j) words ≡ true) ((Decides-eqb n i).0 e) first
taken_by words w n m first more i false e a b =
    let other : n ≢ i = λ same. true≢false (sym ((Decides-eqb n i).1 same) ∙ e) in
    more i (omega (arith, other, a)) b

first_by : (words : List (List ℕ)) (w : List ℕ) (n k : ℕ) (b : Bool) → has_word (word_with_number w n) words ≡ b → n + suc k + 1 < 2 ^ 64
    → IsFirst words w (n + 1) k (number_from words w (n + 1) k) → IsFirst words w n (suc k) (if b then number_from words w (number_after n) k else n)
first_by words w n k true e h more =
    let from = more.from in
    let most = more.most in
    let free = more.free in
    let m = number_from words w (n + 1) k in
    let found : IsFirst words w n (suc k) m = record {
      from = omega (arith, from);
      most = omega (arith, most);
      taken = λ i a b. taken_by words w n m e more.taken i (n == i) refl a b;
      free = λ l. free (omega (arith, l));
    } in
    subst (λ i. IsFirst words w n (suc k) (number_from words w i k)) (sym (next_small n (omega (arith, h)))) found
first_by words w n k false e h more = record { from = omega arith; most = omega arith; taken = λ i a b. absurd (omega (arith, a, b)); free = λ l. e }

first : (words : List (List ℕ)) (w : List ℕ) (n k : ℕ) → n + k + 1 < 2 ^ 64 → IsFirst words w n k (number_from words w n k)
first words w n zero h = record { from = omega arith; most = omega arith; taken = λ i a b. absurd (omega (arith, a, b)); free = λ l. absurd (omega (arith, l)) }
first words w n (suc k) h = first_by words w n k (has_word (word_with_number w n) words) refl h (first words w (n + 1) k (omega (arith, h)))

-- The number that is found makes no word of the text, and those before it do.
pub record IsFree (words : List (List ℕ)) (w : List ℕ) (n m : ℕ) : Type 0 where
  pub from : n ≤ m
  pub most : m ≤ n + length words
  pub taken : (i : ℕ) → n ≤ i → i < m → has_word (word_with_number w i) words ≡ true
  pub free : has_word (word_with_number w m) words ≡ false

free_by : (words : List (List ℕ)) (w : List ℕ) (n m : ℕ) → n + length words + 1 < 2 ^ 64 → IsFirst words w n (length words) m → (b : Bool) → has_word (word_with_number w m) words ≡ b → b ≡ false
free_by words w n m h f false e = refl
free_by words w n m h f true e = absurd (omega (arith, all_taken))
  where
    taken_to : (i : ℕ) (b : Bool) → (i == m) ≡ b → n ≤ i → i < n + suc (length words) → has_word (word_with_number w i) words ≡ true
    taken_to i true q a l = subst (λ j. has_word (word_with_number w j) words ≡ true) (sym ((Decides-eqb i m).0 q)) e
    taken_to i false q a l =
        let last : m ≡ n + length words =
        let most = f.most in
        let late : (m < n + length words) → ⊥ = λ fewer. true≢false (sym e ∙ f.free fewer) in
        omega (arith, most, late) in
        let other : i ≢ m = λ same. true≢false (sym ((Decides-eqb i m).1 same) ∙ q) in
        f.taken i a (omega (arith, other, l, last))

    all_taken : suc (length words) ≤ length words
    all_taken = numbers_taken w words n (suc (length words)) (omega (arith, h)) (λ i a l. taken_to i (i == m) refl a l)

pub is_free : (words : List (List ℕ)) (w : List ℕ) (n : ℕ) → n + length words + 1 < 2 ^ 64 → IsFree words w n (number_from words w n (length words))
is_free words w n h =
    let m = number_from words w n (length words) in
    let f = first words w n (length words) h in
    record { from = f.from; most = f.most; taken = f.taken; free = free_by words w n m h f (has_word (word_with_number w m) words) refl }

-- a text without the digits at its end
abbrev trim_on : ℕ → List ℕ → List ℕ
trim_on b [] = if is_digit b then [] else b ∷ []
trim_on b (c ∷ cs) = b ∷ c ∷ cs

abbrev trim : List ℕ → List ℕ
trim [] = []
trim (b ∷ bs) = trim_on b (trim bs)

digit : (c : ℕ) → 48 ≤ c → c ≤ 57 → is_digit c ≡ true
digit c a b = grind (arith, nat_tests)

trim_digits : (ds : List ℕ) → AllDigits 10 ds → trim ds ≡ []
trim_digits [] d = refl
trim_digits (c ∷ cs) d =
    let r = digit_from_value c d.0 in
    ap (trim_on c) (trim_digits cs d.1) ∙ ap (λ b. if b then [] else c ∷ []) (digit c (omega (arith, r)) (omega (arith, r)))

trim_behind : (xs ds : List ℕ) → AllDigits 10 ds → trim (xs ++ ds) ≡ trim xs
trim_behind [] ds d = trim_digits ds d
trim_behind (x ∷ xs) ds d = ap (trim_on x) (trim_behind xs ds d)

trim_long : (x b : ℕ) (xs : List ℕ) → trim_on x (xs ++ b ∷ []) ≡ x ∷ (xs ++ b ∷ [])
trim_long x b [] = refl
trim_long x b (y ∷ ys) = refl

trim_kept : (xs : List ℕ) (b : ℕ) → is_digit b ≡ false → trim (xs ++ b ∷ []) ≡ xs ++ b ∷ []
trim_kept [] b e = ap (λ r. if r then [] else b ∷ []) e
trim_kept (x ∷ xs) b e = ap (trim_on x) (trim_kept xs b e) ∙ trim_long x b xs

last_shift : (x y : ℕ) (ys : List ℕ) → last_byte (x ∷ y ∷ ys) ≡ last_byte (y ∷ ys)
last_shift x y ys =
    let more : length (x ∷ y ∷ ys) - 1 ≡ suc (length ys) = omega arith in
    let here : length (y ∷ ys) - 1 ≡ length ys = omega arith in
    ap (λ i. unwrap_or (slice_get (x ∷ y ∷ ys) i) 95) more ∙ sym (ap (λ i. unwrap_or (slice_get (y ∷ ys) i) 95) here)

last_put : (xs : List ℕ) (b : ℕ) → last_byte (xs ++ b ∷ []) ≡ b
last_put [] b = refl
last_put (x ∷ []) b = last_shift x b []
last_put (x ∷ y ∷ ys) b = last_shift x y (ys ++ b ∷ []) ∙ last_put (y ∷ ys) b

-- A word is nothing, or ends in its last byte.
record Ends (x : ℕ) (xs : List ℕ) : Type 0 where
  front : List ℕ
  is : x ∷ xs ≡ front ++ last_byte (x ∷ xs) ∷ []

ends : (x : ℕ) (xs : List ℕ) → Ends x xs
ends x [] = record { front = []; is = refl }
ends x (y ∷ ys) =
    let e = ends y ys in
    record { front = x ∷ e.front; is = ap (λ zs. x ∷ zs) e.is ∙ ap (λ b. x ∷ (e.front ++ b ∷ [])) (sym (last_shift x y ys)) }

trim_word : (w : List ℕ) → is_digit (last_byte w) ≡ false → trim w ≡ w
trim_word [] e = refl
trim_word (x ∷ xs) e = let s = ends x xs in ap trim s.is ∙ trim_kept s.front (last_byte (x ∷ xs)) e ∙ sym s.is

-- a word with what stands behind it before a number
abbrev body : Bool → List ℕ → List ℕ
body b w = w ++ joint b

trim_body : (w : List ℕ) (b : Bool) → is_digit (last_byte w) ≡ b → trim (body b w) ≡ body b w
trim_body w true e = trim_kept w 95 refl
trim_body w false e = ap trim (append-nil w) ∙ trim_word w e ∙ sym (append-nil w)

trim_joined : (w : List ℕ) (n : ℕ) → n < 2 ^ 64 → trim (word_with_number w n) ≡ body (is_digit (last_byte w)) w
trim_joined w n h =
    let j = joint (is_digit (last_byte w)) in
    ap trim (sym (append_assoc w j (decimal n))) ∙ trim_behind (w ++ j) (decimal n) (decimal_is_IsNumeral n h).0.1 ∙ trim_body w (is_digit (last_byte w)) refl

-- Of the words behind which numbers are put the only one that ends in `_` is that.
abbrev pub IsBase : List ℕ → Type 0
IsBase w = last_byte w ≡ 95 → w ≡ codes "_"

longer_by : (w v : List ℕ) → is_digit (last_byte w) ≡ true → IsBase v → w ++ codes "_" ≡ v → ⊥
longer_by w v d b e =
    let blank : v ≡ codes "_" = b (ap last_byte (sym e) ∙ last_put w 95) in
    let none : w ≡ [] = append_cancel_right w [] (codes "_") (e ∙ blank) in
    true≢false (sym d ∙ ap (λ u. is_digit (last_byte u)) none)

base_by : (w v : List ℕ) (b c : Bool) → is_digit (last_byte w) ≡ b → is_digit (last_byte v) ≡ c → IsBase w → IsBase v → body b w ≡ body c v → w ≡ v
base_by w v true true e f p q h = append_cancel_right w v (codes "_") h
base_by w v true false e f p q h = absurd (longer_by w v e q (h ∙ append-nil v))
base_by w v false true e f p q h = absurd (longer_by v w f p (sym h ∙ append-nil w))
base_by w v false false e f p q h = sym (append-nil w) ∙ h ∙ append-nil v

pub same_base : (w v : List ℕ) (n m : ℕ) → n < 2 ^ 64 → m < 2 ^ 64 → IsBase w → IsBase v → word_with_number w n ≡ word_with_number v m → w ≡ v
same_base w v n m a b p q e =
    base_by w v (is_digit (last_byte w)) (is_digit (last_byte v)) refl refl p q (sym (trim_joined w n a) ∙ ap trim e ∙ trim_joined v m b)

is_base_by : (letter w : List ℕ) (b : Bool) → (last_byte w == 95) ≡ b → IsBase letter → IsBase (if b then letter else w)
is_base_by letter w true e i = i
is_base_by letter w false e i = λ l. absurd (true≢false (sym ((Decides-eqb (last_byte w) 95).1 l) ∙ e))

pub is_base : (letter w : List ℕ) → IsBase letter → IsBase (base letter w)
is_base letter w = is_base_by letter w (last_byte w == 95) refl
