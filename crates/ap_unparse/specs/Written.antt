-- A text that is written: tokens, and spaces between them.
use Rattle.std.specs.Prelude.{ℕ, List, [], ◌∷◌, ◌++◌, codes}
use Rattle.ap_lexer.specs.declared.token.TokenKind.{TokenKind}
use Rattle.ap_lexer.specs.declared.token.TokenKind.TheVariants.{Var, Ident, Reserved, Sign}
use Rattle.ap_trees.specs.Symbols.{Sym, spelled}

pub data Written : Type 0 where
  token : TokenKind → List ℕ → Written
  space : Written

abbrev pub bytes_of : List Written → List ℕ
bytes_of [] = []
bytes_of (token kind text ∷ ws) = text ++ bytes_of ws
bytes_of (space ∷ ws) = 32 ∷ bytes_of ws

-- what the grammar sees
abbrev pub symbols_of : List Written → List Sym
symbols_of [] = []
symbols_of (token kind text ∷ ws) = spelled kind text ∷ symbols_of ws
symbols_of (space ∷ ws) = symbols_of ws

abbrev pub ident : List ℕ → Written
ident w = token Ident w

abbrev pub var : List ℕ → Written
var w = token Var w

abbrev pub comma : Written
comma = token Sign (codes ",")

abbrev pub semicolon : Written
semicolon = token Sign (codes ";")

abbrev pub round_open : Written
round_open = token Sign (codes "(")

abbrev pub round_close : Written
round_close = token Sign (codes ")")

abbrev pub square_open : Written
square_open = token Sign (codes "[")

abbrev pub square_close : Written
square_close = token Sign (codes "]")

abbrev pub bar : Written
bar = token Sign (codes "|")

abbrev pub lambda_word : Written
lambda_word = token Sign (codes "\\")

abbrev pub fresh_word : Written
fresh_word = token Sign (codes "#")

abbrev pub equal : Written
equal = token Sign (codes "=")

abbrev pub swap : Written
swap = token Reserved (codes "swap")

abbrev pub new : Written
new = token Reserved (codes "new")

abbrev pub exists : Written
exists = token Reserved (codes "exists")

abbrev pub pred : Written
pred = token Reserved (codes "pred")

abbrev pub dot : Written
dot = token Sign (codes ".")

abbrev pub ask : Written
ask = token Sign (codes "?-")
