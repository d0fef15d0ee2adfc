-- Words are read as they are spelled.
use Rattle.std.proofs.Common.{◌≡◌, ℕ, ◌<◌, ◌^◌, ◌⊎◌, inl, inr, ◌==◌, ◌&&◌, Bool, true, false, List, [], ◌∷◌, ◌++◌, length, map, get_or, Some, refl, ap, ◌∙◌, subst, arith, rules, nat_lt, lt-ltb, lit<, zero, suc, ◌||◌, not}
use Rattle.std.proofs.lemmas.Bool.Decides.{Decides-eqb}
use Rattle.std.proofs.lemmas.Fmt.{digits_decimal, digits_value-decimal, decimal_nonempty, first_decimal, decimal_digit}
use Rattle.std.proofs.lemmas.Str.Parse.{IsNumeralModel, numerals_by_value}
use Rattle.std.specs.Char.{is_ascii_digit}
use Rattle.std.specs.Fmt.{decimal}
use Rattle.std.specs.List.{list_all, join_with_byte, slice_split}
use Rattle.std.specs.Str.Parse.{digits_value}
use Rattle.ap_bundle.specs.declared.words.Letter.TheVariants as letter
use Rattle.ap_bundle.specs.declared.words.NodeWord.TheVariants as node
use Rattle.ap_bundle.specs.declared.words.Head.TheVariants as head
use Rattle.ap_bundle.specs.declared.words.Word.{Word}
use Rattle.ap_bundle.specs.declared.words.Word.TheVariants as word
use Rattle.ap_bundle.specs.Words.{is_numeral, number_of, word_of, word_text, words_spelled, line_words, letter_of, node_word_of, head_of}
use Rattle.ap_bundle_laws.specs.Laws.{Each}

own : IsNumeralModel (λ ds. list_all is_ascii_digit ds ≡ true) (digits_value 10)
own = numerals_by_value _ (search rules)

-- no byte of the text is this one
abbrev pub lacks : ℕ → List ℕ → Type 0
lacks c [] = Unit {0}
lacks c (b ∷ bs) = ((b == c) ≡ false) × lacks c bs

pub lacks-append : (c : ℕ) (bs cs : List ℕ) → lacks c bs → lacks c cs → lacks c (bs ++ cs)
lacks-append c [] cs h k = k
lacks-append c (b ∷ bs) cs h k = (h.0, lacks-append c bs cs h.1 k)

cases : (b : Bool) → (b ≡ true) ⊎ (b ≡ false)
cases true = inl refl
cases false = inr refl

both : (a b : Bool) → (a && b) ≡ true → (a ≡ true) × (b ≡ true)
both true b h = (refl, h)
both false b h = (cc, cc)

not_digit : (c d : ℕ) → is_ascii_digit d ≡ false → is_ascii_digit c ≡ true → (c == d) ≡ false
not_digit c d isnt is = elim (cases (c == d)) [
  | inr h ↦ h
  | inl h ↦ let e : c ≡ d = (Decides-eqb c d).0 h in let contra : is_ascii_digit d ≡ true = subst (λ (z : ℕ). is_ascii_digit z ≡ true) e is in cc
]

digits_lack : (c : ℕ) (ds : List ℕ) → is_ascii_digit c ≡ false → list_all is_ascii_digit ds ≡ true → lacks c ds
digits_lack c [] isnt h = tt
digits_lack c (d ∷ ds) isnt h = let p = both (is_ascii_digit d) (list_all is_ascii_digit ds) h in (not_digit d c isnt p.0, digits_lack c ds isnt p.1)

abbrev pub Fits : Word → Type 0
Fits (word.Number n) = n < 2 ^ 64
Fits (word.Letter l) = Unit {0}
Fits (word.Node k) = Unit {0}
Fits (word.Head h) = Unit {0}

pub word_lacks_space : (w : Word) → Fits w → lacks 32 (word_text w)
word_lacks_space (word.Number n) h = digits_lack 32 (decimal n) refl (digits_decimal own n h)
word_lacks_space (word.Letter letter.U) h = (refl, tt)
word_lacks_space (word.Letter letter.N) h = (refl, tt)
word_lacks_space (word.Letter letter.P) h = (refl, tt)
word_lacks_space (word.Letter letter.A) h = (refl, tt)
word_lacks_space (word.Letter letter.L) h = (refl, tt)
word_lacks_space (word.Letter letter.S) h = (refl, tt)
word_lacks_space (word.Letter letter.D) h = (refl, tt)
word_lacks_space (word.Letter letter.B) h = (refl, tt)
word_lacks_space (word.Node node.Atom) h = search rules
word_lacks_space (word.Node node.Eq) h = search rules
word_lacks_space (word.Node node.Fresh) h = search rules
word_lacks_space (word.Node node.True) h = search rules
word_lacks_space (word.Node node.And) h = search rules
word_lacks_space (word.Node node.Left) h = search rules
word_lacks_space (word.Node node.Right) h = search rules
word_lacks_space (word.Node node.Exists) h = search rules
word_lacks_space (word.Node node.New) h = search rules
word_lacks_space (word.Head head.Text) h = search rules
word_lacks_space (word.Head head.Terms) h = search rules
word_lacks_space (word.Head head.Derivations) h = search rules
word_lacks_space (word.Head head.Derivation) h = search rules
word_lacks_space (word.Head head.Vars) h = search rules
word_lacks_space (word.Head head.Conds) h = search rules
word_lacks_space (word.Head head.Binds) h = search rules
word_lacks_space (word.Head head.End) h = search rules
word_lacks_space (word.Head head.V) h = (refl, tt)
word_lacks_space (word.Head head.C) h = (refl, tt)
word_lacks_space (word.Head head.M) h = (refl, tt)
word_lacks_space (word.Head head.T) h = (refl, tt)
word_lacks_space (word.Head head.R) h = (refl, tt)

pub word_lacks_lf : (w : Word) → Fits w → lacks 10 (word_text w)
word_lacks_lf (word.Number n) h = digits_lack 10 (decimal n) refl (digits_decimal own n h)
word_lacks_lf (word.Letter letter.U) h = (refl, tt)
word_lacks_lf (word.Letter letter.N) h = (refl, tt)
word_lacks_lf (word.Letter letter.P) h = (refl, tt)
word_lacks_lf (word.Letter letter.A) h = (refl, tt)
word_lacks_lf (word.Letter letter.L) h = (refl, tt)
word_lacks_lf (word.Letter letter.S) h = (refl, tt)
word_lacks_lf (word.Letter letter.D) h = (refl, tt)
word_lacks_lf (word.Letter letter.B) h = (refl, tt)
word_lacks_lf (word.Node node.Atom) h = search rules
word_lacks_lf (word.Node node.Eq) h = search rules
word_lacks_lf (word.Node node.Fresh) h = search rules
word_lacks_lf (word.Node node.True) h = search rules
word_lacks_lf (word.Node node.And) h = search rules
word_lacks_lf (word.Node node.Left) h = search rules
word_lacks_lf (word.Node node.Right) h = search rules
word_lacks_lf (word.Node node.Exists) h = search rules
word_lacks_lf (word.Node node.New) h = search rules
word_lacks_lf (word.Head head.Text) h = search rules
word_lacks_lf (word.Head head.Terms) h = search rules
word_lacks_lf (word.Head head.Derivations) h = search rules
word_lacks_lf (word.Head head.Derivation) h = search rules
word_lacks_lf (word.Head head.Vars) h = search rules
word_lacks_lf (word.Head head.Conds) h = search rules
word_lacks_lf (word.Head head.Binds) h = search rules
word_lacks_lf (word.Head head.End) h = search rules
word_lacks_lf (word.Head head.V) h = (refl, tt)
word_lacks_lf (word.Head head.C) h = (refl, tt)
word_lacks_lf (word.Head head.M) h = (refl, tt)
word_lacks_lf (word.Head head.T) h = (refl, tt)
word_lacks_lf (word.Head head.R) h = (refl, tt)

or_true : (a : Bool) → (a || true) ≡ true
or_true true = refl
or_true false = refl

-- no leading zero
leading : (n : ℕ) → n < 2 ^ 64 → ((length (decimal n) == 1) || not (get_or (decimal n) 0 0 == 48)) ≡ true
leading zero h = rw (decimal_digit 0 (lit< tt)) refl
leading (suc m) h =
    let big = first_decimal (suc m) (omega arith) h in
    elim (cases (get_or (decimal (suc m)) 0 0 == 48)) [
      | inl e ↦ absurd (let same = (Decides-eqb (get_or (decimal (suc m)) 0 0) 48).0 e in omega arith)
      | inr e ↦ rw e (or_true (length (decimal (suc m)) == 1))
    ]

numeral : (n : ℕ) → n < 2 ^ 64 → is_numeral (decimal n) ≡ true
numeral n h =
    let digits = digits_decimal own n h in
    let some : nat_lt 0 (length (decimal n)) ≡ true = lt-ltb 0 (length (decimal n)) (decimal_nonempty n h) in
    rw (digits, some) (leading n h)

number_again : (n : ℕ) → n < 2 ^ 64 → number_of (decimal n) ≡ Some n
unfolding number_of
number_again n h =
    let value = digits_value-decimal own n h in
    let small : nat_lt n (2 ^ 64) ≡ true = lt-ltb n (2 ^ 64) h in
    rw (numeral n h, value, small) refl

number_word : (n : ℕ) → n < 2 ^ 64 → word_of (decimal n) ≡ Some (word.Number n)
unfolding word_of
number_word n h = rw (number_again n h) refl

pub word_again : (w : Word) → Fits w → word_of (word_text w) ≡ Some w
unfolding word_of number_of letter_of node_word_of head_of
word_again (word.Number n) h = number_word n h
word_again (word.Letter letter.U) h = refl
word_again (word.Letter letter.N) h = refl
word_again (word.Letter letter.P) h = refl
word_again (word.Letter letter.A) h = refl
word_again (word.Letter letter.L) h = refl
word_again (word.Letter letter.S) h = refl
word_again (word.Letter letter.D) h = refl
word_again (word.Letter letter.B) h = refl
word_again (word.Node node.Atom) h = refl
word_again (word.Node node.Eq) h = refl
word_again (word.Node node.Fresh) h = refl
word_again (word.Node node.True) h = refl
word_again (word.Node node.And) h = refl
word_again (word.Node node.Left) h = refl
word_again (word.Node node.Right) h = refl
word_again (word.Node node.Exists) h = refl
word_again (word.Node node.New) h = refl
word_again (word.Head head.Text) h = refl
word_again (word.Head head.Terms) h = refl
word_again (word.Head head.Derivations) h = refl
word_again (word.Head head.Derivation) h = refl
word_again (word.Head head.Vars) h = refl
word_again (word.Head head.Conds) h = refl
word_again (word.Head head.Binds) h = refl
word_again (word.Head head.End) h = refl
word_again (word.Head head.V) h = refl
word_again (word.Head head.C) h = refl
word_again (word.Head head.M) h = refl
word_again (word.Head head.T) h = refl
word_again (word.Head head.R) h = refl

split_at : (t more : List ℕ) → lacks 32 t → slice_split (λ b. b == 32) (t ++ (32 ∷ more)) ≡ t ∷ slice_split (λ b. b == 32) more
split_at [] more h = refl
split_at (b ∷ t) more h = rw (h.0, split_at t more h.1) refl

split_last : (t : List ℕ) → lacks 32 t → slice_split (λ b. b == 32) t ≡ t ∷ []
split_last [] h = refl
split_last (b ∷ t) h = rw (h.0, split_last t h.1) refl

split_joined : (w : Word) (ws : List Word) → Each Fits (w ∷ ws) → slice_split (λ b. b == 32) (join_with_byte 32 (map word_text (w ∷ ws))) ≡ map word_text (w ∷ ws)
split_joined w [] h = split_last (word_text w) (word_lacks_space w h.0)
split_joined w (v ∷ ws) h = split_at (word_text w) (join_with_byte 32 (map word_text (v ∷ ws))) (word_lacks_space w h.0) ∙ ap (λ z. word_text w ∷ z) (split_joined v ws h.1)

words_again : (ws : List Word) → Each Fits ws → words_spelled (map word_text ws) ≡ Some ws
words_again [] h = refl
words_again (w ∷ ws) h = rw (word_again w h.0, words_again ws h.1) refl

pub line_words_again : (w : Word) (ws : List Word) → Each Fits (w ∷ ws) → line_words (join_with_byte 32 (map word_text (w ∷ ws))) ≡ Some (w ∷ ws)
line_words_again w ws h = ap words_spelled (split_joined w ws h) ∙ words_again (w ∷ ws) h

pub joined_lacks_lf : (w : Word) (ws : List Word) → Each Fits (w ∷ ws) → lacks 10 (join_with_byte 32 (map word_text (w ∷ ws)))
joined_lacks_lf w [] h = word_lacks_lf w h.0
joined_lacks_lf w (v ∷ ws) h = lacks-append 10 (word_text w) (32 ∷ join_with_byte 32 (map word_text (v ∷ ws))) (word_lacks_lf w h.0) (refl, joined_lacks_lf v ws h.1)
