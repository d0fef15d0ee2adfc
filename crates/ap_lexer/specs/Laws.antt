-- What holds of the tokens of any text: they stand one after another, and each is the longest.
use Rattle.std.specs.Prelude.{ℕ, ◌-◌, ◌<◌, ◌≤◌, List, [], ◌∷◌, length, take, drop, Option, None, Some, ◌≡◌}
use Rattle.std.specs.List.{All, slice_range}
use Rattle.ap_lexer.specs.declared.token.TokenKind.{TokenKind}
use Rattle.ap_lexer.specs.declared.pieces.Piece.{Piece}
use Rattle.ap_lexer.specs.Spelling.{IsToken}
use Rattle.ap_lexer.specs.Tokens.{Lexeme, line_at}

-- no front of the text that has more than `len` bytes is a token
abbrev pub NoneBeyond : ℕ → List ℕ → Type 0
NoneBeyond len bs = (kind : TokenKind) (n : ℕ) → len < n → n ≤ length bs → ¬ IsToken kind (take n bs)

-- a token of a kind and a length begins the text, and none that is longer
pub record IsLongest (bs : List ℕ) (kind : TokenKind) (len : ℕ) : Type 0 where
  pub inside : len ≤ length bs
  pub token : IsToken kind (take len bs)
  pub longest : NoneBeyond len bs

-- a token that is taken is the longest, and what is taken is no token only where none begins
abbrev pub TakesLongestOf : List ℕ → Option TokenKind → ℕ → Type 0
TakesLongestOf bs None len = NoneBeyond 0 bs
TakesLongestOf bs (Some kind) len = IsLongest bs kind len

-- the same of a piece, or where nothing begins
abbrev pub TakesLongest : List ℕ → Option Piece → Type 0
TakesLongest bs None = NoneBeyond 0 bs
TakesLongest bs (Some p) = TakesLongestOf bs p.kind p.len

-- the tokens stand one after another between two places
abbrev pub Ascend : ℕ → List Lexeme → ℕ → Type 0
Ascend from [] to = from ≤ to
Ascend from (t ∷ ts) to = (from ≤ t.start) × (t.start < t.end) × Ascend t.end ts to

-- a token's text is its slice, its line counts the LFs before it, and no longer token begins there
pub record IsTokenOf (bs : List ℕ) (t : Lexeme) : Type 0 where
  pub slice : t.text ≡ slice_range bs t.start t.end
  pub line : t.line ≡ line_at bs t.start
  pub longest : IsLongest (drop t.start bs) t.kind (t.end - t.start)

pub record AreTokensOf (bs : List ℕ) (ts : List Lexeme) : Type 0 where
  pub ascend : Ascend 0 ts (length bs)
  pub each : All (IsTokenOf bs) ts
