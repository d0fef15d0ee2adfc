-- Where a token ends in a text that was put together: for what prints.
use Rattle.std.proofs.Common.{◌≡◌, ℕ, ◌<◌, Bool, true, false, List, [], ◌∷◌, ◌++◌, ◌==◌, length, take, Option, Some, None, refl, sym, ap, ◌∙◌, arith, append-nil}
use Rattle.std.proofs.lemmas.Str.{chars_past_char, chars_from_encodes, chars-nil, encodes-append, encodes-chars, encode_ascii}
use Rattle.std.proofs.Math.Seq.{take-append_seam}
use Rattle.std.proofs.lemmas.List.Sums.{take_while-cons}
use Rattle.std.specs.Prelude.{encode_utf8, encode_utf8_all, if◌then◌else◌}
use Rattle.std.specs.List.{AllPass, take_while}
use Rattle.std.specs.Str.{IsUtf8, chars}
use Rattle.unicode_ident.specs.Ident.{is_xid_start, is_xid_continue}
use Rattle.ap_lexer.specs.declared.pieces.Piece.{Piece}
use Rattle.ap_lexer.specs.declared.token.TokenKind.TheVariants.{Var, Sign}
use Rattle.ap_lexer.specs.Spelling.{starts_variable, starts_identifier, is_long_mark, is_short_mark}
use Rattle.ap_lexer.specs.Pieces.{word_at, word_kind, piece_from, piece_at}
use Rattle.ap_lexer.proofs.Longest.{Begins, mark_size, take_while-passed, word_at_is, word_start, variable_start, long_starts, short_starts, piece_at-first}

-- nothing at the front of a text goes on with a word
pub record EndsWord (rest : List ℕ) : Type 0 where
  pub text : IsUtf8 rest
  pub stops : take_while is_xid_continue (chars rest) ≡ []

pub ends_word-nil : IsUtf8 [] → EndsWord []
ends_word-nil text = record { text = text; stops = ap (take_while is_xid_continue) chars-nil }

pub ends_word-char : (rest after : List ℕ) (d : ℕ) → IsUtf8 rest → rest ≡ encode_utf8 d ++ after → is_xid_continue d ≡ false → EndsWord rest
ends_word-char rest after d text begin stop =
    record { text = text; stops = rw (chars_past_char rest after d text begin, take_while-cons is_xid_continue d (chars after), stop) refl }

pub ends_word-ascii : (rest : List ℕ) (d : ℕ) → IsUtf8 (d ∷ rest) → d < 128 → is_xid_continue d ≡ false → EndsWord (d ∷ rest)
ends_word-ascii rest d text low stop = ends_word-char (d ∷ rest) rest d text (ap (λ t. t ++ rest) (sym (encode_ascii d low))) stop

-- the first character of a word before another text
word_begins : (c : ℕ) (cs rest : List ℕ) → IsUtf8 (encode_utf8_all (c ∷ cs) ++ rest) → IsUtf8 rest → Begins (encode_utf8_all (c ∷ cs) ++ rest) c (cs ++ chars rest)
word_begins c cs rest text after =
    let all : encode_utf8_all (c ∷ (cs ++ chars rest)) ≡ encode_utf8_all (c ∷ cs) ++ rest =
    encodes-append (c ∷ cs) (chars rest) ∙ ap (λ t. encode_utf8_all (c ∷ cs) ++ t) (encodes-chars rest after) in
    record { text = text; all = sym (chars_from_encodes (c ∷ (cs ++ chars rest)) (encode_utf8_all (c ∷ cs) ++ rest) text all); spelled = sym all }

-- the word is taken whole, and no more
word_at-seam : (c : ℕ) (cs rest : List ℕ) → IsUtf8 (encode_utf8_all (c ∷ cs) ++ rest) → AllPass is_xid_continue cs → EndsWord rest → word_at c (encode_utf8_all (c ∷ cs) ++ rest) ≡ length (encode_utf8_all (c ∷ cs))
word_at-seam c cs rest text goes ends =
    let word : take_while is_xid_continue (cs ++ chars rest) ≡ cs = take_while-passed is_xid_continue cs (chars rest) goes ∙ ap (λ t. cs ++ t) ends.stops ∙ append-nil cs in
    word_at_is (encode_utf8_all (c ∷ cs) ++ rest) (cs ++ chars rest) c (word_begins c cs rest text ends.text) ∙ ap (λ t. length (encode_utf8_all (c ∷ t))) word

-- a variable, and what ends it
pub piece_at-variable : (c : ℕ) (cs rest : List ℕ) → IsUtf8 (encode_utf8_all (c ∷ cs) ++ rest) → starts_variable c ≡ true → AllPass is_xid_continue cs → EndsWord rest
    → piece_at (encode_utf8_all (c ∷ cs) ++ rest) ≡ Some (record { kind = Some Var; len = length (encode_utf8_all (c ∷ cs)) })
piece_at-variable c cs rest text begin goes ends =
    let bs = encode_utf8_all (c ∷ cs) ++ rest in
    piece_at-first bs (cs ++ chars rest) c (word_begins c cs rest text ends.text)
    ∙ ap (λ s. piece_from s c bs) (variable_start (is_xid_start c) c begin)
    ∙ ap (λ n. Some (record { kind = Some Var; len = n })) (word_at-seam c cs rest text goes ends)

-- an identifier or a reserved word, and what ends it
pub piece_at-word : (c : ℕ) (cs rest : List ℕ) → IsUtf8 (encode_utf8_all (c ∷ cs) ++ rest) → starts_identifier c ≡ true → AllPass is_xid_continue cs → EndsWord rest
    → piece_at (encode_utf8_all (c ∷ cs) ++ rest) ≡ Some (record { kind = Some (word_kind (encode_utf8_all (c ∷ cs))); len = length (encode_utf8_all (c ∷ cs)) })
piece_at-word c cs rest text begin goes ends =
    let bs = encode_utf8_all (c ∷ cs) ++ rest in
    piece_at-first bs (cs ++ chars rest) c (word_begins c cs rest text ends.text)
    ∙ ap (λ s. piece_from s c bs) (word_start c begin)
    ∙ ap (λ n. Some (record { kind = Some (word_kind (take n bs)); len = n })) (word_at-seam c cs rest text goes ends)
    ∙ ap (λ (w : List ℕ). Some (record { kind = Some (word_kind w); len = length (encode_utf8_all (c ∷ cs)) })) (take-append_seam (encode_utf8_all (c ∷ cs)) rest)

ascii_begins : (m : ℕ) (rest : List ℕ) → IsUtf8 (m ∷ rest) → IsUtf8 rest → m < 128 → Begins (m ∷ rest) m (chars rest)
ascii_begins m rest text after low =
    let front : m ∷ rest ≡ encode_utf8 m ++ rest = ap (λ t. t ++ rest) (sym (encode_ascii m low)) in
    record { text = text; all = chars_past_char (m ∷ rest) rest m text front; spelled = front ∙ ap (λ t. encode_utf8 m ++ t) (sym (encodes-chars rest after)) }

-- the mark that two tests give
abbrev marked : Bool → Bool → Option Piece
marked long short = let n = mark_size long short in if n == 0 then None else Some (record { kind = Some Sign; len = n })

-- a mark of one byte, before what makes no longer one of it
pub piece_at-short : (m : ℕ) (rest : List ℕ) → IsUtf8 (m ∷ rest) → IsUtf8 rest → is_short_mark (m ∷ []) ≡ true → is_long_mark (m ∷ take 1 rest) ≡ false
    → piece_at (m ∷ rest) ≡ Some (record { kind = Some Sign; len = 1 })
piece_at-short m rest text after short long =
    let starts = (short_starts (m ∷ []) short).0 in
    piece_at-first (m ∷ rest) (chars rest) m (ascii_begins m rest text after starts.1) ∙ ap (λ s. piece_from s m (m ∷ rest)) starts.0
    ∙ ap (λ b. marked b (is_short_mark (m ∷ []))) long ∙ ap (λ b. marked false b) short

-- a mark of two bytes
pub piece_at-long : (m n : ℕ) (rest : List ℕ) → IsUtf8 (m ∷ n ∷ rest) → IsUtf8 (n ∷ rest) → is_long_mark (m ∷ n ∷ []) ≡ true
    → piece_at (m ∷ n ∷ rest) ≡ Some (record { kind = Some Sign; len = 2 })
piece_at-long m n rest text after long =
    let starts = (long_starts (m ∷ n ∷ []) long).0 in
    piece_at-first (m ∷ n ∷ rest) (chars (n ∷ rest)) m (ascii_begins m (n ∷ rest) text after starts.1) ∙ ap (λ s. piece_from s m (m ∷ n ∷ rest)) starts.0
    ∙ ap (λ b. marked b (is_short_mark (m ∷ []))) long

-- a space
pub piece_at-space : (rest : List ℕ) → IsUtf8 (32 ∷ rest) → IsUtf8 rest → piece_at (32 ∷ rest) ≡ Some (record { kind = None; len = 1 })
piece_at-space rest text after = piece_at-first (32 ∷ rest) (chars rest) 32 (ascii_begins 32 rest text after (omega arith))
