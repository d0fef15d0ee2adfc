-- Where a word ends.
use Rattle.std.proofs.Common.{◌≡◌, ℕ, ◌<◌, ◌≤◌, Bool, true, false, not, List, [], ◌∷◌, ◌++◌, length, take, drop, get_or, Option, None, Some, MatchOption, unwrap_or, ◌≢◌, ◌==◌, refl, sym, ◌∙◌, ap, arith, take-append-drop}
use Rattle.std.proofs.lemmas.Grind.{common_steps}
use Rattle.std.proofs.lemmas.Bool.Decides.{nat_tests}
use Rattle.std.specs.List.{take_while}
use Rattle.std.specs.Str.{IsUtf8, IsCharBoundary, NonePass, chars}
use Rattle.std.specs.Str.Pattern.{FindsBy}
use Rattle.std.proofs.lemmas.Str.{chars_from_encodes, chars-append, chars_past_char, IsUtf8-take, IsUtf8-drop}
use Rattle.std.proofs.lemmas.List.Sums.{take_while-cons, prefix_len_is}
use Rattle.unicode_ident.specs.Ident.{is_xid_continue}
use Rattle.ap_lexer.specs.Pieces.{word_len, comment_len}

pub true_of_not : (b : Bool) → not b ≡ false → b ≡ true
true_of_not b h = grind arith

pub false_of_not : (b : Bool) → not b ≡ true → b ≡ false
false_of_not b h = grind arith

ne_test : (b : ℕ) → b ≢ 10 → not (b == 10) ≡ true
ne_test b h = grind (arith, nat_tests)

-- what passes up to what doesn't
pub take_while-stops : (p : ℕ → Bool) (cs : List ℕ) (c : ℕ) (ds : List ℕ) → NonePass (λ d. not (p d)) cs → p c ≡ false → take_while p (cs ++ c ∷ ds) ≡ cs
take_while-stops p [] c ds none stop = rw (take_while-cons p c ds, stop) refl
take_while-stops p (d ∷ cs) c ds none stop =
    rw (take_while-cons p d (cs ++ c ∷ ds), true_of_not (p d) none.0) (ap (λ t. d ∷ t) (take_while-stops p cs c ds none.1 stop))

pub take_while-all : (p : ℕ → Bool) (cs : List ℕ) → NonePass (λ d. not (p d)) cs → take_while p cs ≡ cs
take_while-all p [] none = refl
take_while-all p (d ∷ cs) none = rw (take_while-cons p d cs, true_of_not (p d) none.0) (ap (λ t. d ∷ t) (take_while-all p cs none.1))

-- what `find` of a character that doesn't go on gives
pub word_found : (bs : List ℕ) (r : Option ℕ) (M : (ℕ → Bool) → Type 0) → IsUtf8 bs
    → MatchOption r ((k : ℕ → Bool) → M k → FindsBy k bs None) (λ i. (j : ℕ) × ((k : ℕ → Bool) → M k → FindsBy k bs (Some (i, j))) × (i ≤ j) × IsCharBoundary bs i × IsCharBoundary bs j)
    → M (λ d. not (is_xid_continue d)) → unwrap_or r (length bs) ≡ word_len bs
unfolding word_len
word_found bs None M utf8 h m =
    let n = h _ m in
    let same : n.0 ≡ chars bs = chars_from_encodes n.0 bs utf8 n.1 in
    let all : take_while is_xid_continue (chars bs) ≡ n.0 = rw (← same) (take_while-all is_xid_continue n.0 n.2) in
    rw (all, n.1) refl
word_found bs (Some i) M utf8 h m =
    let found = h.1 _ m in
    let none = found.0 in
    let at = found.1 in
    let front : IsUtf8 (take i bs) = IsUtf8-take bs i utf8 h.3 in
    let rest : IsUtf8 (drop i bs) = IsUtf8-drop bs i utf8 h.3 in
    let first : chars (take i bs) ≡ none.0 = sym (chars_from_encodes none.0 (take i bs) front none.1) in
    let second : chars (drop i bs) ≡ at.0 ∷ chars (drop h.0 bs) = chars_past_char (drop i bs) (drop h.0 bs) at.0 rest at.2.split in
    let whole : chars bs ≡ none.0 ++ at.0 ∷ chars (drop h.0 bs) =
    ap chars (sym (take-append-drop i bs)) ∙ chars-append (take i bs) (drop i bs) front ∙ ap (λ t. t ++ chars (drop i bs)) first ∙ ap (λ t. none.0 ++ t) second in
    let word : take_while is_xid_continue (chars bs) ≡ none.0 = rw whole (take_while-stops is_xid_continue none.0 at.0 _ none.2 (false_of_not _ at.1)) in
    let inside : i ≤ length bs = h.3.0 in
    rw (word, none.1) (grind (arith, common_steps))

-- what `find` of an LF gives
pub line_found : (bs : List ℕ) (r : Option ℕ) → MatchOption r ((i : ℕ) → i < length bs → get_or bs i 0 ≢ 10) (λ k. (k < length bs) × (get_or bs k 0 ≡ 10) × ((i : ℕ) → i < k → get_or bs i 0 ≢ 10)) → unwrap_or r (length bs) ≡ comment_len bs
line_found bs None h = sym (prefix_len_is (λ b. not (b == 10)) bs (length bs) 0 (omega arith) (λ k lt. ne_test _ (h k lt)) (λ lt. absurd (omega arith)))
line_found bs (Some k) h =
    sym (prefix_len_is (λ b. not (b == 10)) bs k 0 (omega arith) (λ i lt. ne_test _ (h.2 i lt)) (λ lt. rw h.1 refl))
