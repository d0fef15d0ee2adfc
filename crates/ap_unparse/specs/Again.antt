-- What a text that is one item, or one type, is read as.
use Rattle.std.specs.Prelude.{◌≡◌, ℕ, List, [], ◌∷◌, ◌++◌, Ok}
use Rattle.ap_lexer.specs.Tokens.{Lexeme, lexed}
use Rattle.ap_trees.specs.Symbols.{syms_of}
use Rattle.ap_trees.specs.Items.{Saying}
use Rattle.ap_trees.specs.Types.{Ty}
use Rattle.ap_trees.specs.TypeGrammar.{IsType}
use Rattle.ap_syntax.specs.Reading as items
use Rattle.ap_unparse.specs.Written.{Written, space, ident, round_open, round_close, pred}

-- The bytes are lexed, and their tokens read as one item, which begins on the first line and says this.
pub record ReadsAs (bytes : List ℕ) (form : Saying) : Type 0 where
  pub tokens : List Lexeme
  pub all : lexed bytes ≡ Ok tokens
  pub item : items.Reads 1 tokens (Ok (record { line = 1; form = form } ∷ []))

-- the declaration of a predicate of one argument, without its end
abbrev pub predicate_before : List ℕ → List Written → List Written
predicate_before w ws = pred ∷ space ∷ ident w ∷ round_open ∷ (ws ++ round_close ∷ [])

-- The bytes are lexed, and all their tokens together spell this type.
pub record SpellsType (bytes : List ℕ) (t : Ty) : Type 0 where
  pub tokens : List Lexeme
  pub all : lexed bytes ≡ Ok tokens
  pub whole : IsType (syms_of tokens) t []
