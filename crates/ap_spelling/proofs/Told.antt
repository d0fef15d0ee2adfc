-- Spellings that all differ, with one more.
use Rattle.std.proofs.Common.{◌≡◌, ◌≢◌, ◌≤◌, ◌<◌, ◌+◌, ◌*◌, ◌^◌, ℕ, suc, Bool, true, false, List, [], ◌∷◌, ◌++◌, length, refl, sym, ap, ◌∙◌, subst, arith, true≢false, length-append, ◌==◌, nat_lt}
use Rattle.std.proofs.lemmas.Bool.Decides.{Decides-eqb, nat_tests}
use Rattle.std.specs.Prelude.{if◌then◌else◌, not, codes, unwrap_or, is_some, Option, Some, None}
use Rattle.std.specs.Str.{bytes_eq}
use Rattle.std.proofs.lemmas.Bool.{and_parts}
use Rattle.ap_defs.specs.declared.terms.Name.{Name}
use Rattle.ap_defs.specs.declared.terms.Var.{Var}
use Rattle.ap_defs.specs.Permutations.{has_name}
use Rattle.ap_defs.specs.Printing.{has_word}
use Rattle.ap_defs.specs.Unification.{has_var}
use Rattle.ap_spelling.specs.Differing.{AllDiffer, IsBeginning, spellings}
use Rattle.ap_spelling.specs.Words as given
use Rattle.ap_spelling.specs.Words.{NominalGiven, NominalSpelt, Numbered, base, give, give_each, word_with_number, number_after, next_spelling, number_from, numbered_by, numbered_next, spelling_of, stands, spelt_with_name, with_var}
use Rattle.ap_spelling.proofs.WordLists.{IsOneMore, at_back, in_front, is_not, more_at_back, more_names, more_vars, same_word, word_alike}
use Rattle.ap_spelling.proofs.Numbered.{IsBase, IsFree, is_base, is_free, next_small, numbers_taken, same_base, same_number}

-- How a word came to be a spelling: it is of the text, and was used; or a number was put behind another.
data How (words : List (List ℕ)) (last : Numbered) (u : List ℕ) : Type 0 where
  stood : (n : ℕ) → has_word u words ≡ true → last u ≡ Some n → How words last u
  made : (w : List ℕ) (n k : ℕ) → has_word u words ≡ false → u ≡ word_with_number w n → IsBase w → last w ≡ Some k → n ≤ k → n < 2 ^ 64 → How words last u

-- The spellings so far, by the numbers.
record AreTold (words : List (List ℕ)) (last : Numbered) (us : List (List ℕ)) : Type 0 where
  how : (u : List ℕ) → has_word u us ≡ true → How words last u
  differ : AllDiffer us
  fits : (w : List ℕ) (n : ℕ) → last w ≡ Some n → n < 2 ^ 64
  taken : (w : List ℕ) (n k : ℕ) → last w ≡ Some n → 1 ≤ k → k ≤ n → has_word (word_with_number w k) (words ++ us) ≡ true

-- Numbers that are as great, or greater.
record Number (o : Option ℕ) (n : ℕ) : Type 0 where
  number : ℕ
  is : o ≡ Some number
  most : n ≤ number

abbrev Grows : Numbered → Numbered → Type 0
Grows last later = (w : List ℕ) (n : ℕ) → last w ≡ Some n → Number (later w) n

grown : (words : List (List ℕ)) (last later : Numbered) (u : List ℕ) → Grows last later → How words last u → How words later u
grown words last later u grows (stood n h e) = let m = grows u n e in stood m.number h m.is
grown words last later u grows (made w n k h e b l a c) = let m = grows w k l in let most = m.most in made w n m.number h e b m.is (omega (arith, a, most)) c

-- a word gets a greater number
grows_by : (w v : List ℕ) (m n : ℕ) (last : Numbered) → ((k : ℕ) → last w ≡ Some k → k ≤ m) → (b : Bool) → bytes_eq w v ≡ b → last v ≡ Some n → Number (if b then Some m else last v) n
grows_by w v m n last most true e h =
    let same : w ≡ v = same_word w v e in
    record { number = m; is = refl; most = most n (ap last same ∙ h) }
grows_by w v m n last most false e h = record { number = n; is = h; most = omega arith }

numbers_grow : (w : List ℕ) (m : ℕ) (last : Numbered) → ((k : ℕ) → last w ≡ Some k → k ≤ m) → Grows last (numbered_next w m last)
numbers_grow w m last most v n h = grows_by w v m n last most (bytes_eq w v) refl h

set_by : (P : ℕ → Type 0) (w v : List ℕ) (m n : ℕ) (last : Numbered) (b : Bool) → bytes_eq w v ≡ b → (if b then Some m else last v) ≡ Some n
    → (w ≡ v → n ≡ m → P n) → (last v ≡ Some n → P n) → P n
set_by P w v m n last true e h here there = here (same_word w v e) (let same : Some m ≡ Some n = h in cc)
set_by P w v m n last false e h here there = there h

-- a number in the table with one more is that, or was there
set_number : (P : ℕ → Type 0) (w v : List ℕ) (m n : ℕ) (last : Numbered) → numbered_next w m last v ≡ Some n → (w ≡ v → n ≡ m → P n) → (last v ≡ Some n → P n) → P n
set_number P w v m n last = set_by P w v m n last (bytes_eq w v) refl

was_there_by : (b r q : Bool) → (b ≡ true → q ≡ true) → (r ≡ true → q ≡ true) → (if b then true else r) ≡ true → q ≡ true
was_there_by true r q first others h = first refl
was_there_by false r q first others h = others h

more_has : (v u : List ℕ) (us ws : List (List ℕ)) → IsOneMore v us ws → has_word u us ≡ true → has_word u ws ≡ true
more_has v u us ws more h = more.has u ∙ ap (λ r. if bytes_eq u v then true else r) h ∙ yes (bytes_eq u v)
  where
    yes : (b : Bool) → (if b then true else true) ≡ true
    yes true = refl
    yes false = refl

new_is_there : (v : List ℕ) (us ws : List (List ℕ)) → IsOneMore v us ws → (b : Bool) → bytes_eq v v ≡ b → b ≡ true → has_word v ws ≡ true
new_is_there v us ws more b e h = more.has v ∙ ap (λ r. if r then true else has_word v us) (e ∙ h)

-- the word of a spelling is told as before, or is the new one
told_more : (words us ws : List (List ℕ)) (last later : Numbered) (v : List ℕ) → IsOneMore v us ws → Grows last later → ((u : List ℕ) → has_word u us ≡ true → How words last u)
    → How words later v → (u : List ℕ) → has_word u ws ≡ true → How words later u
told_more words us ws last later v more grows how new u h = by (bytes_eq u v) refl (sym (more.has u) ∙ h)
  where
    by : (b : Bool) → bytes_eq u v ≡ b → (if b then true else has_word u us) ≡ true → How words later u
    by true e i = subst (λ w. How words later w) (sym (same_word u v e)) new
    by false e i = grown words last later u grows (how u i)

-- a word of the text that wasn't used is no spelling yet
unused : (words : List (List ℕ)) (last : Numbered) (w : List ℕ) → has_word w words ≡ true → last w ≡ None → How words last w → ⊥
unused words last w h e (stood n g f) = no_number (sym e ∙ f)
  where
    no_number : {n : ℕ} → None ≡ Some n → ⊥
    no_number p = true≢false (sym (ap is_some p))
unused words last w h e (made v n k g f b l a c) = true≢false (sym h ∙ g)

-- nor is one with a greater number
unmade : (words : List (List ℕ)) (last : Numbered) (w : List ℕ) (m : ℕ) → has_word (word_with_number w m) words ≡ false → IsBase w → m < 2 ^ 64 → ((k : ℕ) → last w ≡ Some k → k < m)
    → How words last (word_with_number w m) → ⊥
unmade words last w m h b c most (stood n g f) = true≢false (sym g ∙ h)
unmade words last w m h b c most (made v n k g f d l a e) =
    let same : w ≡ v = same_base w v m n c e b d f in
    let equal : m ≡ n = same_number w m n c e (f ∙ ap (λ u. word_with_number u n) (sym same)) in
    let less = most k (ap last same ∙ l) in
    omega (arith, equal, less, a)

-- a word of the text is used
use_word : (words us ws : List (List ℕ)) (last : Numbered) (w : List ℕ) → AreTold words last us → IsOneMore w us ws → has_word w words ≡ true → last w ≡ None
    → AreTold words (numbered_next w 0 last) ws
use_word words us ws last w told more h none = record {
  how = told_more words us ws last later w more grows told.how here;
  differ = more.differ told.differ (is_not (has_word w us) (λ i. unused words last w h none (told.how w i)));
  fits = λ v n e. set_number (λ i. i < 2 ^ 64) w v 0 n last e (λ s z. omega (arith, z)) (told.fits v n);
  taken = λ v n k e a b. set_number (λ i. k ≤ i → has_word (word_with_number v k) (words ++ ws) ≡ true) w v 0 n last e
      (λ s z l. absurd (omega (arith, z, a, l)))
      (λ i l. more_at_back (word_with_number v k) words us ws (more_has w (word_with_number v k) us ws more) (told.taken v n k i a l)) b;
}
  where
    later : Numbered
    later = numbered_next w 0 last

    no_number : (k : ℕ) → last w ≡ Some k → k ≤ 0
    no_number k e = absurd (true≢false (sym (ap is_some (sym none ∙ e))))

    grows : Grows last (numbered_next w 0 last)
    grows = numbers_grow w 0 last no_number

    here : How words (numbered_next w 0 last) w
    here = stood 0 h (ap (λ b. if b then Some 0 else last w) (word_alike w))

-- A word and its numbers, where those to the last one are taken.
record IsLast (words us : List (List ℕ)) (last : Numbered) (w : List ℕ) (n : ℕ) : Type 0 where
  most : (k : ℕ) → last w ≡ Some k → k ≤ n
  few : n ≤ length words + length us
  taken : (k : ℕ) → 1 ≤ k → k ≤ n → has_word (word_with_number w k) (words ++ us) ≡ true

few_numbers : (words us : List (List ℕ)) (last : Numbered) (w : List ℕ) (n : ℕ) → AreTold words last us → last w ≡ Some n → n ≤ length words + length us
few_numbers words us last w n told e =
    let fits = told.fits w n e in
    let few = numbers_taken w (words ++ us) 1 n (omega (arith, fits)) (λ i a b. told.taken w n i e a (omega (arith, b))) in
    let long = length-append words us in
    omega (arith, few, long)

last_by : (words us : List (List ℕ)) (last : Numbered) (w : List ℕ) (o : Option ℕ) → AreTold words last us → last w ≡ o → IsLast words us last w (unwrap_or o 0)
last_by words us last w None told e =
    record { most = λ k h. absurd (true≢false (sym (ap is_some (sym e ∙ h)))); few = omega arith; taken = λ k a b. absurd (omega (arith, a, b)) }
last_by words us last w (Some n) told e =
    record { most = λ k h. let same : Some n ≡ Some k = sym e ∙ h in let equal : n ≡ k = cc in omega (arith, equal); few = few_numbers words us last w n told e; taken = λ k a b. told.taken w n k e a b }

next_is_free : (words us : List (List ℕ)) (last : Numbered) (w : List ℕ) → unwrap_or (last w) 0 ≤ length words + length us → 2 * length words + length us + 2 < 2 ^ 64
    → IsFree words w (unwrap_or (last w) 0 + 1) (next_spelling words w last)
next_is_free words us last w few small =
    let n = unwrap_or (last w) 0 in
    subst (λ i. IsFree words w (n + 1) (number_from words w i (length words))) (sym (next_small n (omega (arith, few, small)))) (is_free words w (n + 1) (omega (arith, few, small)))

-- a number is put behind a word
use_number : (words us ws : List (List ℕ)) (last : Numbered) (w : List ℕ) (n m : ℕ) → AreTold words last us → IsBase w → IsOneMore (word_with_number w m) us ws → IsLast words us last w n
    → IsFree words w (n + 1) m → m < 2 ^ 64 → AreTold words (numbered_next w m last) ws
use_number words us ws last w n m told base more old free small = record {
  how = told_more words us ws last later (word_with_number w m) more grows told.how here;
  differ = more.differ told.differ (is_not (has_word (word_with_number w m) us) (λ i. unmade words last w m free.free base small less (told.how (word_with_number w m) i)));
  fits = λ v i e. set_number (λ j. j < 2 ^ 64) w v m i last e (λ s z. omega (arith, z, small)) (told.fits v i);
  taken = λ v i k e a b. set_number (λ j. k ≤ j → has_word (word_with_number v k) (words ++ ws) ≡ true) w v m i last e
      (λ s z l. subst (λ (u : List ℕ). has_word (word_with_number u k) (words ++ ws) ≡ true) s (taken_new k a (omega (arith, z, l))))
      (λ h l. more_at_back (word_with_number v k) words us ws (more_has (word_with_number w m) (word_with_number v k) us ws more) (told.taken v i k h a l)) b;
}
  where
    later : Numbered
    later = numbered_next w m last

    less : (k : ℕ) → last w ≡ Some k → k < m
    less k e = let most = old.most k e in let from = free.from in omega (arith, most, from)

    grows : Grows last (numbered_next w m last)
    grows = numbers_grow w m last (λ k e. let l = less k e in omega (arith, l))

    here : How words (numbered_next w m last) (word_with_number w m)
    here = made w m m free.free refl base (ap (λ b. if b then Some m else last w) (word_alike w)) (omega arith) small

    at_end : (k : ℕ) (b : Bool) → (k == m) ≡ b → n + 1 ≤ k → k ≤ m → has_word (word_with_number w k) (words ++ ws) ≡ true
    at_end k true e a l =
        subst (λ i. has_word (word_with_number w i) (words ++ ws) ≡ true) (sym ((Decides-eqb k m).0 e)) (at_back (word_with_number w m) words ws (new_is_there (word_with_number w m) us ws more true (word_alike (word_with_number w m)) refl))
    at_end k false e a l =
        let other : k ≢ m = λ same. true≢false (sym ((Decides-eqb k m).1 same) ∙ e) in
        in_front (word_with_number w k) words ws (free.taken k a (omega (arith, other, l)))

    taken_by : (k : ℕ) (b : Bool) → nat_lt n k ≡ b → 1 ≤ k → k ≤ m → has_word (word_with_number w k) (words ++ ws) ≡ true
    taken_by k true e a l = at_end k (k == m) refl (grind (arith, nat_tests)) l
    taken_by k false e a l = more_at_back (word_with_number w k) words us ws (more_has (word_with_number w m) (word_with_number w k) us ws more) (old.taken k a (grind (arith, nat_tests)))

    taken_new : (k : ℕ) → 1 ≤ k → k ≤ m → has_word (word_with_number w k) (words ++ ws) ≡ true
    taken_new k = taken_by k (nat_lt n k) refl

none_of : (o : Option ℕ) → not (is_some o) ≡ true → o ≡ None
none_of None h = refl
none_of (Some n) h = absurd (true≢false (sym h))

told_by : (words us ws : List (List ℕ)) (letter w : List ℕ) (last : Numbered) (b : Bool) → stands words w last ≡ b → IsBase letter
    → IsOneMore (if b then w else word_with_number (base letter w) (next_spelling words (base letter w) last)) us ws → AreTold words last us → 2 * length words + length us + 2 < 2 ^ 64
    → AreTold words (if b then numbered_next w 0 last else numbered_next (base letter w) (next_spelling words (base letter w) last) last) ws
told_by words us ws letter w last true e i more told small =
    let h = and_parts (has_word w words) (not (is_some (last w))) e in
    use_word words us ws last w told more h.0 (none_of (last w) h.1)
told_by words us ws letter w last false e i more told small =
    let v = base letter w in
    let n = unwrap_or (last v) 0 in
    let old : IsLast words us last v n = last_by words us last v (last v) told refl in
    let few = old.few in
    let free : IsFree words v (n + 1) (next_spelling words v last) = next_is_free words us last v few small in
    let most = free.most in
    use_number words us ws last v n (next_spelling words v last) told (is_base letter w i) more old free (omega (arith, few, most, small))

-- one word more is spelled
told_with : (words us ws : List (List ℕ)) (letter w : List ℕ) (last : Numbered) → IsBase letter → IsOneMore (spelling_of words letter w last) us ws → AreTold words last us
    → 2 * length words + length us + 2 < 2 ^ 64 → AreTold words (numbered_by words letter w last) ws
told_with words us ws letter w last = told_by words us ws letter w last (stands words w last) refl

-- What is spelled, where one more may have been.
record AreToldAfter (words : List (List ℕ)) (s later : NominalSpelt) : Type 0 where
  told : AreTold words later.last (spellings later)
  few : length (spellings later) ≤ suc (length (spellings s))

no_digit : IsBase (codes "n")
no_digit l = absurd (omega (arith, l))

blank_base : IsBase (codes "_")
blank_base l = refl

name_told : (words : List (List ℕ)) (a : Name) (w : List ℕ) (s : NominalSpelt) (b : Bool) → AreTold words s.last (spellings s) → 2 * length words + length (spellings s) + 2 < 2 ^ 64
    → AreToldAfter words s (if b then s else spelt_with_name words a w s)
name_told words a w s true told small = record { told = told; few = omega arith }
name_told words a w s false told small =
    let more = more_names (spelling_of words (codes "n") w s.last) s.name_words s.var_words in
    let count = more.count in
    record { told = told_with words (spellings s) (spellings (spelt_with_name words a w s)) (codes "n") w s.last no_digit more told small; few = omega (arith, count) }

var_told : (words : List (List ℕ)) (x : Var) (w : List ℕ) (s : NominalSpelt) (b : Bool) → AreTold words s.last (spellings s) → 2 * length words + length (spellings s) + 2 < 2 ^ 64
    → AreToldAfter words s (if b then s else with_var words x w s)
var_told words x w s true told small = record { told = told; few = omega arith }
var_told words x w s false told small =
    let more = more_vars (spelling_of words (codes "_") w s.last) s.name_words s.var_words in
    let count = more.count in
    record { told = told_with words (spellings s) (spellings (with_var words x w s)) (codes "_") w s.last blank_base more told small; few = omega (arith, count) }

given_told : (words : List (List ℕ)) (g : NominalGiven) (s : NominalSpelt) → AreTold words s.last (spellings s) → 2 * length words + length (spellings s) + 2 < 2 ^ 64
    → AreToldAfter words s (give words g s)
given_told words (given.name a w) s = name_told words a w s (has_name a s.names)
given_told words (given.var x w) s = var_told words x w s (has_var x s.vars)

all_told : (words : List (List ℕ)) (gs : List NominalGiven) (s : NominalSpelt) → AreTold words s.last (spellings s) → 2 * length words + (length (spellings s) + length gs) + 2 < 2 ^ 64
    → AreTold words (give_each words gs s).last (spellings (give_each words gs s))
all_told words [] s told small = told
all_told words (g ∷ gs) s told small =
    let next = given_told words g s told (omega (arith, small)) in
    let few = next.few in
    all_told words gs (give words g s) next.told (omega (arith, few, small))

stood_by : (words : List (List ℕ)) (last : Numbered) (u : List ℕ) (o : Option ℕ) → last u ≡ o → has_word u words ≡ true → is_some o ≡ true → How words last u
stood_by words last u None e h i = absurd (true≢false (sym i))
stood_by words last u (Some n) e h i = stood n h e

begun : (words : List (List ℕ)) (s : NominalSpelt) → IsBeginning words s → AreTold words s.last (spellings s)
begun words s h = record {
  how = λ u i. stood_by words s.last u (s.last u) refl (h.of_text u i) (h.left u i);
  differ = h.differ;
  fits = λ w n e. let none = h.unnumbered w n e in omega (arith, none);
  taken = λ w n k e a b. let none = h.unnumbered w n e in absurd (omega (arith, none, a, b));
}

pub all_differ : (words : List (List ℕ)) (gs : List NominalGiven) (s : NominalSpelt) → IsBeginning words s → 2 * length words + (length (spellings s) + length gs) + 2 < 2 ^ 64
    → AllDiffer (spellings (give_each words gs s))
all_differ words gs s h small = (all_told words gs s (begun words s h) small).differ
