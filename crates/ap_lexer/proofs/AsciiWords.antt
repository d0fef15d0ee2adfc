-- Words of ASCII.
use Rattle.std.proofs.Common.{◌≡◌, ℕ, suc, ◌+◌, ◌<◌, ◌≤◌, Bool, true, false, List, [], ◌∷◌, ◌++◌, length, get_or, None, Some, unwrap_or, cond, ltb, refl, sym, ap, ◌∙◌, arith, length-append}
use Rattle.std.proofs.lemmas.Grind.{common_steps}
use Rattle.std.proofs.lemmas.Bool.Decides.{nat_tests}
use Rattle.std.proofs.lemmas.Iterator.Adapters.{position_from-zero}
use Rattle.std.proofs.lemmas.List.Sums.{prefix_len-le-length, take_while-cons}
use Rattle.std.proofs.lemmas.Str.{chars-nil, chars_past_char, encode_ascii, IsUtf8-past_char}
use Rattle.std.specs.Prelude.{encode_utf8, encode_utf8_all}
use Rattle.std.specs.Char.{is_ascii_alphabetic}
use Rattle.std.specs.List.{position_from, position_or_len, take_while}
use Rattle.std.specs.Str.{IsUtf8, chars}
use Rattle.unicode_ident.specs.Ident.{is_xid_start, is_xid_continue}
use Rattle.unicode_ident.proofs.IdentLemmas.{is_xid_start-ascii, is_xid_continue-ascii}
use Rattle.ap_lexer.specs.Pieces.{ends_ascii, word_len}
use Rattle.ap_lexer.proofs.Words.{false_of_not, true_of_not}

-- as `is_xid_start` answers on ASCII
pub ascii_begins : (c : ℕ) → c < 128 → is_ascii_alphabetic c ≡ is_xid_start c
ascii_begins c low = sym (is_xid_start-ascii c low)

cut_or_len : (a n : ℕ) → a ≤ n → unwrap_or (cond (ltb a n) (Some a) None) n ≡ a
cut_or_len a n h = grind (arith, common_steps)

-- the place that was found, or the length
pub place_or_len : {B : Type 0} (test : B → Bool) (xs : List B) → unwrap_or (position_from test 0 xs) (length xs) ≡ position_or_len test xs
place_or_len test xs = rw (← position_from-zero test xs) (cut_or_len (position_or_len test xs) (length xs) (prefix_len-le-length _ xs))

goes_low : (b : ℕ) → ends_ascii b ≡ false → b < 128
goes_low b e = grind (arith, nat_tests)

front : (b : ℕ) (bs : List ℕ) → b < 128 → b ∷ bs ≡ encode_utf8 b ++ bs
front b bs low = ap (λ t. t ++ bs) (sym (encode_ascii b low))

-- a word, by its first byte
word_on : (b : ℕ) (bs : List ℕ) (goes : Bool) → IsUtf8 (b ∷ bs) → b < 128 → is_xid_continue b ≡ goes → word_len (b ∷ bs) ≡ cond goes (1 + word_len bs) 0
unfolding word_len
word_on b bs true text low e =
    rw (chars_past_char (b ∷ bs) bs b text (front b bs low), take_while-cons is_xid_continue b (chars bs), e, length-append (encode_utf8 b) (encode_utf8_all (take_while is_xid_continue (chars bs))), encode_ascii b low) refl
word_on b bs false text low e = rw (chars_past_char (b ∷ bs) bs b text (front b bs low), take_while-cons is_xid_continue b (chars bs), e) refl

-- what stands behind the ASCII characters that go on with a word is one too, if there is anything
abbrev pub StopsLow : List ℕ → Type 0
StopsLow bs = position_or_len ends_ascii bs < length bs → get_or bs (position_or_len ends_ascii bs) 0 < 128

word_by : (b : ℕ) (bs : List ℕ) (ends : Bool) → ends_ascii b ≡ ends → IsUtf8 (b ∷ bs) → StopsLow (b ∷ bs) → (StopsLow bs → word_len bs ≡ position_or_len ends_ascii bs) → word_len (b ∷ bs) ≡ position_or_len ends_ascii (b ∷ bs)
word_by b bs true e text stop more =
    let here : position_or_len ends_ascii (b ∷ bs) ≡ 0 = rw e refl in
    let low : b < 128 = (rw here at stop) (omega arith) in
    word_on b bs false text low (is_xid_continue-ascii b low ∙ false_of_not _ e) ∙ sym here
word_by b bs false e text stop more =
    let next : position_or_len ends_ascii (b ∷ bs) ≡ suc (position_or_len ends_ascii bs) = rw e (omega arith) in
    let low = goes_low b e in
    let rest = more (λ lt. (rw next at stop) (omega (arith, lt))) in
    word_on b bs true text low (is_xid_continue-ascii b low ∙ true_of_not _ e) ∙ ap (λ n. 1 + n) rest ∙ sym (rw e refl)

-- a word is of ASCII alone where what stands behind it is
pub ascii_word : (bs : List ℕ) → IsUtf8 bs → StopsLow bs → word_len bs ≡ position_or_len ends_ascii bs
unfolding word_len
ascii_word [] text stop = rw chars-nil refl
ascii_word (b ∷ bs) text stop =
    word_by b bs (ends_ascii b) refl text stop (λ low. ascii_word bs (IsUtf8-past_char (b ∷ bs) bs b text (front b bs (first_low b bs (ends_ascii b) refl stop))) low)
  where
    first_low : (b : ℕ) (bs : List ℕ) (ends : Bool) → ends_ascii b ≡ ends → StopsLow (b ∷ bs) → b < 128
    first_low b bs true e stop = let here : position_or_len ends_ascii (b ∷ bs) ≡ 0 = rw e refl in (rw here at stop) (omega arith)
    first_low b bs false e stop = goes_low b e
