-- The tokens of a text of bytes, and its first fault.
use Rattle.std.specs.Prelude.{ℕ, zero, suc, pred, ◌+◌, Bool, ◌==◌, List, [], ◌∷◌, ◌++◌, length, take, drop, map, count_by, Option, None, Some, Result, Ok, Err, codes, if◌then◌else◌, ◌≡◌}
use Rattle.std.specs.Str.{bytes_eq}
use Rattle.std.specs.Str.Lossy.{utf8_valid_len}
use Rattle.ap_defs.specs.declared.faults.SyntaxFault.{SyntaxFault}
use Rattle.ap_defs.specs.declared.faults.SyntaxKind.TheVariants as kinds
use Rattle.ap_lexer.specs.declared.token.TokenKind.{TokenKind}
use Rattle.ap_lexer.specs.declared.token.Token.{Token}
use Rattle.ap_lexer.specs.declared.token.LexError.{LexError}
use Rattle.ap_lexer.specs.declared.token.LexError.TheVariants as errors
use Rattle.ap_lexer.specs.declared.pieces.Piece.{Piece}
use Rattle.ap_lexer.specs.Pieces.{piece_at}

-- where a token stands
pub record Span : Type 0 where
  pub kind : TokenKind
  pub start : ℕ
  pub len : ℕ

-- where the tokens stand, and the place at which nothing begins: a fault, or the end
pub record Scan : Type 0 where
  pub spans : List Span
  pub stop : ℕ

-- the token of a piece at a place, if it is one
abbrev pub span_of : ℕ → Piece → List Span
span_of at p = elim p.kind [ None ↦ [] | Some kind ↦ record { kind = kind; start = at; len = p.len } ∷ [] ]

-- the piece at a place, and what comes after its bytes; `rest` is given how many are still to skip
abbrev pub scan_piece : ℕ → Option Piece → (ℕ → Scan) → Scan
scan_piece at None rest = record { spans = []; stop = at }
scan_piece at (Some p) rest = record { spans = span_of at p ++ (rest (pred p.len)).spans; stop = (rest (pred p.len)).stop }

-- the tokens of bytes that begin at a place; the first `skip` bytes belong to the piece before
unfoldable pub scan_from : ℕ → ℕ → List ℕ → Scan
scan_from at skip [] = record { spans = []; stop = at }
scan_from at zero (b ∷ bs) = scan_piece at (piece_at (b ∷ bs)) (λ skip. scan_from (suc at) skip bs)
scan_from at (suc skip) (b ∷ bs) = scan_from (suc at) skip bs

-- a token without where it lies in memory
pub record Lexeme : Type 0 where
  pub kind : TokenKind
  pub text : List ℕ
  pub start : ℕ
  pub end : ℕ
  pub line : ℕ

-- the line of a place: 1, and one more for each LF before it
abbrev pub line_at : List ℕ → ℕ → ℕ
line_at bs place = 1 + count_by (λ b. b == 10) (take place bs)

abbrev pub lexeme_at : List ℕ → Span → Lexeme
lexeme_at bs s = record { kind = s.kind; text = take s.len (drop s.start bs); start = s.start; end = s.start + s.len; line = line_at bs s.start }

-- the tokens of a text from a place on
abbrev pub lexemes_from : List ℕ → ℕ → List Lexeme
lexemes_from bs place = map (lexeme_at bs) (scan_from place 0 (drop place bs)).spans

abbrev pub lexemes_of : List ℕ → List Lexeme
lexemes_of bs = map (lexeme_at bs) (scan_from 0 0 bs).spans

-- the token `.`, which ends an item
abbrev pub is_dot : Lexeme → Bool
is_dot t = bytes_eq t.text (codes ".")

-- the tokens of the first item, with the `.` that ends it, or all where none does
abbrev pub item_front : List Lexeme → List Lexeme
item_front [] = []
item_front (t ∷ ts) = t ∷ (if is_dot t then [] else item_front ts)

-- the tokens after it
abbrev pub after_item : List Lexeme → List Lexeme
after_item [] = []
after_item (t ∷ ts) = if is_dot t then ts else after_item ts

-- the item of what comes after these tokens
abbrev pub item_after : List Lexeme → ℕ
item_after ts = 1 + count_by is_dot ts

-- `front` is the longest front of `bs` that is UTF-8. The tokens are read from it, and they are
-- those of the text if the scan ends where the text does. Else the fault is where it ends: at a
-- character, or where the UTF-8 ends
abbrev pub lexed_front : List ℕ → List ℕ → Result (List Lexeme) SyntaxFault
lexed_front bs front = let stop = (scan_from 0 0 front).stop in if stop == length bs then Ok (lexemes_of front)
    else Err (record {
      place = record { item = item_after (lexemes_of front); line = line_at front stop };
      kind = if stop == length front then kinds.NotUtf8 else kinds.Character;
    })

-- what a text reads as: its tokens, or its first fault
unfoldable pub lexed : List ℕ → Result (List Lexeme) SyntaxFault
lexed bs = lexed_front bs (take (utf8_valid_len bs) bs)

-- the view of a token without where it lies in memory
abbrev pub lexeme : Token → Lexeme
lexeme t = record { kind = t.kind; text = t.text.now; start = t.start; end = t.end; line = t.line }

abbrev pub lexemes : List Token → List Lexeme
lexemes ts = map lexeme ts

-- an error is the fault that was read, or want of memory
abbrev pub FailsLexing : LexError → Result (List Lexeme) SyntaxFault → Type 0
FailsLexing errors.Memory read = Unit {0}
FailsLexing (errors.Fault f) read = read ≡ Err f

-- what was returned is what was read, unless memory ran out
abbrev pub GivesLexemes : {X : Type 0} → (X → List Lexeme) → Result X LexError → Result (List Lexeme) SyntaxFault → Type 0
GivesLexemes view (Ok x) read = read ≡ Ok (view x)
GivesLexemes view (Err e) read = FailsLexing e read
