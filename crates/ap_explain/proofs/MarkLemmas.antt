-- Tokens in memory, and where they stand.
use Rattle.std.proofs.Common.{◌≡◌, ◌∙◌, ◌≤◌, ℕ, List, take, slice_get, count_by, Some, sym, ap}
use Rattle.std.specs.Option.{option_map}
use Rattle.std.proofs.lemmas.Option.{slice_get-map}
use Rattle.ap_explain.specs.Marks.{StandsIn}
use Rattle.std.proofs.lemmas.List.{take-map}
use Rattle.ap_lexer.specs.declared.token.Token.{Token}
use Rattle.ap_lexer.specs.Tokens.{lexeme, lexemes, item_after, is_dot}

-- the `.` before the token with a number
pub dots_before : (ts : List Token) (n : ℕ) → count_by is_dot (lexemes (take n ts)) ≡ count_by is_dot (take n (lexemes ts))
dots_before ts n = ap (count_by is_dot) (sym (take-map lexeme n ts))

-- a byte at a token of an item stands in it
pub stands : (ts : List Token) (item byte n : ℕ) (t : Token) → slice_get ts n ≡ Some t → item_after (take n (lexemes ts)) ≡ item → t.start ≤ byte
    → byte ≤ t.end → StandsIn (lexemes ts) item byte
stands ts item byte n t found counted from to = record {
  number = n;
  token = lexeme t;
  found = slice_get-map lexeme ts n ∙ ap (option_map lexeme) found;
  counted = counted;
  behind_begin = from;
  before_end = to;
}
