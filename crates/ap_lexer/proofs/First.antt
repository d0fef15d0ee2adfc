-- The first character of a text.
use Rattle.std.proofs.Common.{◌≡◌, ℕ, ◌+◌, ◌<◌, List, [], ◌∷◌, ◌++◌, length, get_or, drop, arith, refl, sym, ap, ◌∙◌, zero-add, length-append}
use Rattle.std.specs.Prelude.{encode_utf8, None}
use Rattle.std.specs.Char.{len_utf8}
use Rattle.std.specs.Str.{IsUtf8, chars}
use Rattle.std.proofs.lemmas.Str.{chars_past_char, drop_past_char, len_utf8_bounds, len_utf8_ascii, length-encode, IsCharBoundary-past_char}
use Rattle.ap_lexer.specs.Pieces.{IsFirstChar, piece_at, piece_from, start_of}

at_head : (bs rest : List ℕ) (c : ℕ) → 0 < length bs → chars bs ≡ c ∷ chars rest → piece_at bs ≡ piece_from (start_of c) c bs
unfolding piece_at
at_head [] rest c some e = absurd (omega arith)
at_head (b ∷ bs) rest c some e = let head : get_or (chars (b ∷ bs)) 0 0 ≡ c = rw e refl in ap (λ d. piece_from (start_of d) d (b ∷ bs)) head

pub none_at : (bs : List ℕ) → length bs ≡ 0 → piece_at bs ≡ None
unfolding piece_at
none_at [] e = refl
none_at (b ∷ bs) e = absurd (omega arith)

pub first_is : (bs rest : List ℕ) (c : ℕ) → IsUtf8 bs → bs ≡ encode_utf8 c ++ rest → IsFirstChar bs c rest
first_is bs rest c utf8 e =
    let bounds = len_utf8_bounds c in
    let whole : length bs ≡ len_utf8 c + length rest = rw (e, length-append (encode_utf8 c) rest, length-encode c) refl in
    record {
      piece = at_head bs rest c (omega arith) (chars_past_char bs rest c utf8 e);
      rest = sym (drop_past_char bs rest 0 c e) ∙ ap (λ k. drop k bs) (zero-add (len_utf8 c));
      width = omega arith;
      whole = sym whole;
      cut = rw zero-add at (IsCharBoundary-past_char bs rest 0 c (omega arith) utf8 e);
      ascii = len_utf8_ascii c;
    }
