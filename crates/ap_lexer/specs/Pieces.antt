-- What begins a text: white space, a comment or a token, and how many bytes it takes.
use Rattle.std.specs.Prelude.{ℕ, ◌+◌, Bool, ◌||◌, ◌==◌, not, List, [], ◌∷◌, length, take, drop, ◌<◌, ◌≡◌, Option, None, Some, slice_index, encode_utf8_all, if◌then◌else◌}
use Rattle.std.specs.List.{take_while, position_or_len}
use Rattle.std.specs.Str.{chars, IsCharBoundary}
use Rattle.std.specs.Char.{len_utf8, is_ascii_alphanumeric}
use Rattle.unicode_ident.specs.Ident.{is_xid_start, is_xid_continue}
use Rattle.ap_lexer.specs.declared.pieces.Piece.{Piece}
use Rattle.ap_lexer.specs.declared.pieces.Start.{Start}
use Rattle.ap_lexer.specs.declared.pieces.Start.TheVariants.{Blank, Comment, Variable, Word, Other}
use Rattle.ap_lexer.specs.declared.token.TokenKind.{TokenKind}
use Rattle.ap_lexer.specs.declared.token.TokenKind.TheVariants.{Var, Ident, Reserved, Sign}
use Rattle.ap_lexer.specs.Spelling.{starts_variable, is_reserved, is_long_mark, is_short_mark}

-- space, tab, CR or LF
abbrev pub is_blank : ℕ → Bool
is_blank c = (c == 32) || ((c == 9) || ((c == 13) || (c == 10)))

-- up to the next LF, or to the end
abbrev pub comment_len : List ℕ → ℕ
comment_len bs = position_or_len (λ b. b == 10) bs

-- the bytes of the longest front whose characters go on with a word
unfoldable pub word_len : List ℕ → ℕ
word_len bs = length (encode_utf8_all (take_while is_xid_continue (chars bs)))

-- no ASCII letter, digit or `_`
abbrev pub ends_ascii : ℕ → Bool
ends_ascii b = not (is_ascii_alphanumeric b || (b == 95))

abbrev pub word_kind : List ℕ → TokenKind
word_kind word = if is_reserved word then Reserved else Ident

-- the length of the longest front that is a mark, or 0
abbrev pub mark_len : List ℕ → ℕ
mark_len bs = if is_long_mark (take 2 bs) then 2 else (if is_short_mark (take 1 bs) then 1 else 0)

abbrev pub mark_at : List ℕ → Option Piece
mark_at bs = let n = mark_len bs in if n == 0 then None else Some (record { kind = Some Sign; len = n })

-- what a character begins
abbrev pub start_of : ℕ → Start
start_of c = if is_blank c then Blank else (if c == 37 then Comment else (if starts_variable c then Variable else (if is_xid_start c then Word else Other)))

-- the length of a word that begins with the character c
abbrev pub word_at : ℕ → List ℕ → ℕ
word_at c bs = len_utf8 c + word_len (drop (len_utf8 c) bs)

-- the piece that begins with the character c, if one does; white space goes one character at a time
abbrev pub piece_from : Start → ℕ → List ℕ → Option Piece
piece_from Blank c bs = Some (record { kind = None; len = 1 })
piece_from Comment c bs = Some (record { kind = None; len = 1 + comment_len (drop 1 bs) })
piece_from Variable c bs = Some (record { kind = Some Var; len = word_at c bs })
piece_from Word c bs = Some (record { kind = Some (word_kind (take (word_at c bs) bs)); len = word_at c bs })
piece_from Other c bs = mark_at bs

-- the piece that begins a text, if one does
unfoldable pub piece_at : List ℕ → Option Piece
piece_at [] = None
piece_at (b ∷ bs) = let c = slice_index (chars (b ∷ bs)) 0 in piece_from (start_of c) c (b ∷ bs)

-- a text is this character, and the rest after it
pub record IsFirstChar (bs : List ℕ) (c : ℕ) (after : List ℕ) : Type 0 where
  pub piece : piece_at bs ≡ piece_from (start_of c) c bs
  pub rest : after ≡ drop (len_utf8 c) bs
  pub width : 0 < len_utf8 c
  pub whole : len_utf8 c + length after ≡ length bs
  pub cut : IsCharBoundary bs (len_utf8 c)
  pub ascii : c < 128 → len_utf8 c ≡ 1
