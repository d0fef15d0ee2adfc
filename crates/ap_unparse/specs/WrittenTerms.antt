-- How terms are written: as they are read, without spaces.
use Rattle.std.specs.Prelude.{ℕ, List, [], ◌∷◌, ◌++◌, codes}
use Rattle.ap_trees.specs.Terms.{Name, OfWord, OfVar, Term, Terms, Unit, Variable, Word, Apply, Pair, Nil, Cell, Abs, Swapped, Last, More}
use Rattle.ap_unparse.specs.declared.context.Context.{Context}
use Rattle.ap_unparse.specs.declared.context.Context.TheVariants.{Whole, Part, Rest}
use Rattle.ap_unparse.specs.Written.{Written, bytes_of, ident, var, comma, round_open, round_close, square_open, square_close, bar, lambda_word, swap}

abbrev pub written_name : Name → Written
written_name (OfWord w) = ident w
written_name (OfVar w) = var w

-- the rest of a list that isn't a list is written behind a bar
abbrev pub barred_words : Context → List Written → List Written
barred_words Rest ws = bar ∷ ws
barred_words context ws = ws

-- the parts of a tuple in parentheses, unless they go on a tuple that was begun
abbrev pub tuple_at : Context → List Written → List Written
tuple_at Part ws = ws
tuple_at context ws = barred_words context (round_open ∷ (ws ++ round_close ∷ []))

-- the parts of a list in brackets, unless they go on a list that was begun
abbrev pub list_at : Context → List Written → List Written
list_at Rest ws = comma ∷ ws
list_at context ws = square_open ∷ (ws ++ square_close ∷ [])

abbrev pub nil_at : Context → List Written
nil_at Rest = []
nil_at context = square_open ∷ square_close ∷ []

-- a term in a context
abbrev mutual
  pub term_at : Context → Term → List Written
  term_at context Unit = barred_words context (round_open ∷ round_close ∷ [])
  term_at context (Variable w) = barred_words context (var w ∷ [])
  term_at context (Word w) = barred_words context (ident w ∷ [])
  term_at context (Apply w args) = barred_words context (ident w ∷ round_open ∷ (arguments_of args ++ round_close ∷ []))
  term_at context (Pair t u) = tuple_at context (term_at Whole t ++ comma ∷ term_at Part u)
  term_at context Nil = nil_at context
  term_at context (Cell t u) = list_at context (term_at Whole t ++ term_at Rest u)
  term_at context (Abs name t) = barred_words context (written_name name ∷ lambda_word ∷ term_at Whole t)
  term_at context (Swapped left right t) =
      barred_words context (swap ∷ round_open ∷ written_name left ∷ comma ∷ written_name right ∷ comma ∷ (term_at Whole t ++ round_close ∷ []))

  pub arguments_of : Terms → List Written
  arguments_of (Last t) = term_at Whole t
  arguments_of (More t ts) = term_at Whole t ++ comma ∷ arguments_of ts

abbrev pub written_term : Term → List Written
written_term t = term_at Whole t

abbrev pub name_text : Name → List ℕ
name_text (OfWord w) = w
name_text (OfVar w) = w

-- what stands before the parts of a tuple, and behind them
abbrev pub tuple_opening : Context → List ℕ
tuple_opening Part = []
tuple_opening Rest = codes "|("
tuple_opening Whole = codes "("

abbrev pub tuple_closing : Context → List ℕ
tuple_closing Part = []
tuple_closing context = codes ")"

-- what stands before the parts of a list cell, and behind them
abbrev pub list_opening : Context → List ℕ
list_opening Rest = codes ","
list_opening context = codes "["

abbrev pub list_closing : Context → List ℕ
list_closing Rest = []
list_closing context = codes "]"

-- what stands before the body of a swapping
abbrev pub swap_opening : Context → Name → Name → List ℕ
swap_opening context left right =
    bytes_of (barred_words context []) ++ (codes "swap(" ++ (name_text left ++ (codes "," ++ (name_text right ++ codes ","))))

-- what stands before the body of an abstraction
abbrev pub abs_opening : Context → Name → List ℕ
abs_opening context name = bytes_of (barred_words context []) ++ (name_text name ++ codes "\\")

-- what stands before arguments
abbrev pub apply_opening : Context → List ℕ → List ℕ
apply_opening context w = bytes_of (barred_words context []) ++ (w ++ codes "(")
