-- Trees whose words are identifiers that aren't reserved, and whose variables are variables.
use Rattle.std.specs.Prelude.{ℕ, List, [], ◌∷◌, codes, ◌≢◌}
use Rattle.std.specs.Str.{IsUtf8}
use Rattle.ap_lexer.specs.declared.token.TokenKind.TheVariants.{Var, Ident}
use Rattle.ap_lexer.specs.Spelling.{IsToken}
use Rattle.ap_trees.specs.Goals as goals
use Rattle.ap_trees.specs.Goals.{Goal}
use Rattle.ap_trees.specs.Types as types
use Rattle.ap_trees.specs.Types.{Ty}
use Rattle.ap_trees.specs.Terms as terms
use Rattle.ap_trees.specs.Terms.{Name, OfWord, OfVar, Term, Terms, Variable, Word, Apply, Pair, Nil, Cell, Abs, Swapped, Last, More}

abbrev pub IsIdentifier : List ℕ → Type 0
IsIdentifier w = IsToken Ident w × IsUtf8 w

abbrev pub IsVariable : List ℕ → Type 0
IsVariable w = IsToken Var w × IsUtf8 w

abbrev pub IsWordedType : Ty → Type 0
IsWordedType types.Unit = Unit {0}
IsWordedType (types.Word w) = IsIdentifier w
IsWordedType (types.Pair t u) = IsWordedType t × IsWordedType u
IsWordedType (types.Array t) = IsWordedType t
IsWordedType (types.Abs w t) = IsIdentifier w × IsWordedType t

abbrev pub IsWordedName : Name → Type 0
IsWordedName (OfWord w) = IsIdentifier w
IsWordedName (OfVar w) = IsVariable w

abbrev mutual
  pub IsWordedTerm : Term → Type 0
  IsWordedTerm terms.Unit = Unit {0}
  IsWordedTerm (Variable w) = IsVariable w
  IsWordedTerm (Word w) = IsIdentifier w
  IsWordedTerm (Apply w args) = IsIdentifier w × AreWorded args
  IsWordedTerm (Pair t u) = IsWordedTerm t × IsWordedTerm u
  IsWordedTerm Nil = Unit {0}
  IsWordedTerm (Cell t u) = IsWordedTerm t × IsWordedTerm u
  IsWordedTerm (Abs name t) = IsWordedName name × IsWordedTerm t
  IsWordedTerm (Swapped left right t) = IsWordedName left × IsWordedName right × IsWordedTerm t

  pub AreWorded : Terms → Type 0
  AreWorded (Last t) = IsWordedTerm t
  AreWorded (More t ts) = IsWordedTerm t × AreWorded ts

abbrev pub EachWorded : List Term → Type 0
EachWorded [] = Unit {0}
EachWorded (t ∷ ts) = IsWordedTerm t × EachWorded ts

-- the variable of an `exists` isn't `_`
abbrev pub IsWordedGoal : Goal → Type 0
IsWordedGoal (goals.Atom w ts) = IsIdentifier w × EachWorded ts
IsWordedGoal (goals.Equation t u) = IsWordedTerm t × IsWordedTerm u
IsWordedGoal (goals.Freshness t u) = IsWordedTerm t × IsWordedTerm u
IsWordedGoal (goals.Both g h) = IsWordedGoal g × IsWordedGoal h
IsWordedGoal (goals.Either g h) = IsWordedGoal g × IsWordedGoal h
IsWordedGoal (goals.Some_variable w g) = IsVariable w × (w ≢ codes "_") × IsWordedGoal g
IsWordedGoal (goals.New_name w g) = IsIdentifier w × IsWordedGoal g
