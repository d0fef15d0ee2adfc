-- What may be written, and what is read again.
use Rattle.std.specs.Prelude.{◌≡◌, ℕ, ◌<◌, false, List, [], ◌∷◌, ◌++◌, length, Some, Ok}
use Rattle.std.specs.Str.{IsUtf8}
use Rattle.unicode_ident.specs.Ident.{is_xid_continue}
use Rattle.ap_lexer.specs.declared.token.TokenKind.{TokenKind}
use Rattle.ap_lexer.specs.declared.token.TokenKind.TheVariants.{Var, Ident, Reserved, Sign}
use Rattle.ap_lexer.specs.Spelling.{IsToken}
use Rattle.ap_lexer.specs.Pieces.{piece_at}
use Rattle.ap_lexer.specs.Tokens.{Lexeme, lexed}
use Rattle.ap_trees.specs.Symbols.{Sym, syms_of}
use Rattle.ap_unparse.specs.Written.{Written, token, space}

-- A mark that begins whatever text it is written before, whole, and goes on with no word.
pub record IsMark (text : List ℕ) : Type 0 where
  pub byte : ℕ
  pub more : List ℕ
  pub is : text ≡ byte ∷ more
  pub taken : (rest : List ℕ) → IsUtf8 rest → piece_at (text ++ rest) ≡ Some (record { kind = Some Sign; len = length text })
  pub low : byte < 128
  pub stops : is_xid_continue byte ≡ false
  pub utf8 : IsUtf8 text

-- what may be written as a token of a kind
abbrev pub IsWritten : TokenKind → List ℕ → Type 0
IsWritten Sign text = IsMark text
IsWritten Var text = IsToken Var text × IsUtf8 text
IsWritten Ident text = IsToken Ident text × IsUtf8 text
IsWritten Reserved text = IsToken Reserved text × IsUtf8 text

-- no word begins what is written
abbrev pub StartsApart : List Written → Type 0
StartsApart [] = Unit {0}
StartsApart (space ∷ ws) = Unit {0}
StartsApart (token Sign text ∷ ws) = Unit {0}
StartsApart (token Var text ∷ ws) = ⊥
StartsApart (token Ident text ∷ ws) = ⊥
StartsApart (token Reserved text ∷ ws) = ⊥

abbrev pub ApartFrom : TokenKind → List Written → Type 0
ApartFrom Sign ws = Unit {0}
ApartFrom Var ws = StartsApart ws
ApartFrom Ident ws = StartsApart ws
ApartFrom Reserved ws = StartsApart ws

-- each token may be written, and none begins right behind a word but a mark
abbrev pub Writes : List Written → Type 0
Writes [] = Unit {0}
Writes (space ∷ ws) = Writes ws
Writes (token kind text ∷ ws) = IsWritten kind text × ApartFrom kind ws × Writes ws

-- The bytes are lexed, and the grammar sees these symbols.
pub record ReadsAsSymbols (bytes : List ℕ) (symbols : List Sym) : Type 0 where
  pub tokens : List Lexeme
  pub all : lexed bytes ≡ Ok tokens
  pub same : syms_of tokens ≡ symbols
