-- How many parts trees have.
use Rattle.std.proofs.Common.{ℕ, ◌+◌}
use Rattle.ap_trees.specs.Types as types
use Rattle.ap_trees.specs.Types.{Ty}
use Rattle.ap_trees.specs.Terms as terms
use Rattle.ap_trees.specs.Terms.{Term, Terms}
use Rattle.ap_trees.specs.Goals as goals
use Rattle.ap_trees.specs.Goals.{Goal}

abbrev pub type_size : Ty → ℕ
type_size types.Unit = 1
type_size (types.Word w) = 1
type_size (types.Pair t u) = 1 + type_size t + type_size u
type_size (types.Array t) = 1 + type_size t
type_size (types.Abs w t) = 1 + type_size t

abbrev mutual
  pub term_size : Term → ℕ
  term_size terms.Unit = 1
  term_size (terms.Variable w) = 1
  term_size (terms.Word w) = 1
  term_size (terms.Apply w ts) = 1 + terms_size ts
  term_size (terms.Pair t u) = 1 + term_size t + term_size u
  term_size terms.Nil = 1
  term_size (terms.Cell t u) = 1 + term_size t + term_size u
  term_size (terms.Abs a t) = 1 + term_size t
  term_size (terms.Swapped a b t) = 1 + term_size t

  pub terms_size : Terms → ℕ
  terms_size (terms.Last t) = 1 + term_size t
  terms_size (terms.More t ts) = 1 + term_size t + terms_size ts

abbrev pub goal_size : Goal → ℕ
goal_size (goals.Atom w ts) = 1
goal_size (goals.Equation t u) = 1
goal_size (goals.Freshness t u) = 1
goal_size (goals.Both g h) = 1 + goal_size g + goal_size h
goal_size (goals.Either g h) = 1 + goal_size g + goal_size h
goal_size (goals.Some_variable w g) = 1 + goal_size g
goal_size (goals.New_name w g) = 1 + goal_size g
