-- The end of a search beside a path that it covers.
use Rattle.std.specs.Prelude.{◌≡◌, ◌-◌, ℕ, true, List, Some, slice_get}
use Rattle.ap_defs.specs.Answers as answers
use Rattle.ap_defs.specs.Answers.{NominalAnswer, query_outs}
use Rattle.ap_defs.specs.Goals.{Clauses, NominalQuery}
use Rattle.ap_defs.specs.PathOrder.{has_prefix}
use Rattle.ap_defs.specs.declared.paths.Node.{Node}
use Rattle.ap_defs.specs.declared.paths.Node.TheVariants as nodes
use Rattle.ap_paths.specs.Trees.{InChoiceTree}
use Rattle.ap_search.specs.PathTrees.{query_choices}
use Rattle.ap_backchain.specs.Problems.{clauses_in, queries_in}
use Rattle.ap_backchain.specs.declared.problem.Problem.{Problem}
use Rattle.ap_complete.specs.NumberedProofs.{IsAmong}

-- the search has an answer at the path, or is stuck at a beginning of it
pub data Covers (program : Clauses) (depth : ℕ) (q : NominalQuery) (path : List ℕ) : Type 0 where
  by_answer : (a : NominalAnswer) → IsAmong (answers.found path a) (query_outs program depth q) → Covers program depth q path
  by_stuck : (l : List ℕ) → IsAmong (answers.stuck l) (query_outs program depth q) → has_prefix l path ≡ true → Covers program depth q path

-- this node of the search, which stands at a path, is the answer at the other one, or is stuck at a beginning of it
abbrev pub IsEnd : Node → List ℕ → List ℕ → Type 0
IsEnd nodes.Answer l path = l ≡ path
IsEnd nodes.Stuck l path = has_prefix l path ≡ true
IsEnd _ l path = ⊥

-- the search of the problem's query has each choice of the path
abbrev pub IsInSearch : Problem → List ℕ → Type 0
IsInSearch p l = (q : NominalQuery) → slice_get (queries_in p) (p.query - 1) ≡ Some q → InChoiceTree (query_choices (clauses_in p) p.depth q) l

-- it covers the path
abbrev pub CoversPath : Problem → List ℕ → Type 0
CoversPath p path = (q : NominalQuery) → slice_get (queries_in p) (p.query - 1) ≡ Some q → Covers (clauses_in p) p.depth q path
