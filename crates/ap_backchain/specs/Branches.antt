-- Branches, and what it is for one to be of a problem.
use Rattle.std.specs.Prelude.{◌≡◌, ◌≤◌, ◌-◌, ℕ, List, [], ◌∷◌, Option, Some, None, map, slice_get}
use Rattle.ap_defs.specs.Answers as answers
use Rattle.ap_defs.specs.Answers.{NominalAnswer, outs_at}
use Rattle.ap_defs.specs.Goals.{Clauses, NominalQuery}
use Rattle.ap_defs.specs.Paths.{marked_query}
use Rattle.ap_defs.specs.declared.paths.Node.{Node}
use Rattle.ap_defs.specs.declared.paths.Node.TheVariants as nodes
use Rattle.ap_search.specs.Marks.{mark_in, mark_path}
use Rattle.ap_search.specs.PathTrees.{query_choice, query_choices}
use Rattle.ap_search.specs.Prefixes.{beginning}
use Rattle.ap_turns.specs.Marks.{choices_among}
use Rattle.ap_backchain.specs.Problems.{clauses_in, queries_in}
use Rattle.ap_backchain.specs.declared.branch.Branch.{Branch}
use Rattle.ap_backchain.specs.declared.descent.Descent.{Descent}
use Rattle.ap_turns.specs.Standings.{IsChoosing, IsNamedNode, marks_of_standing, path_of_standing, width_of_standing}
use Rattle.ap_turns.specs.declared.standing.Standing.{Standing}
use Rattle.ap_machine.specs.Unbound.{answer_by_unbound}
use Rattle.ap_backchain.specs.declared.problem.Problem.{Problem}

-- how many choices the search of a query makes at a path and below it
abbrev pub choices_at : Clauses → ℕ → NominalQuery → List ℕ → ℕ
choices_at program d q p = choices_among (beginning mark_path p (map (mark_in q.locals) (marked_query program d q)))

abbrev pub path_of_branch : Branch → List ℕ
path_of_branch b = path_of_standing b.standing

abbrev pub IsChoiceOfNode : ℕ → Node → Type 0
IsChoiceOfNode k (nodes.Choice w kept) = (1 ≤ k) × (k ≤ w)
IsChoiceOfNode k _ = ⊥

-- it is one of the choices at which the branch stands
abbrev pub IsChoiceOf : ℕ → Branch → Type 0
IsChoiceOf k b = IsChoiceOfNode k b.node

abbrev pub IsAnswering : Branch → Type 0
IsAnswering b = b.node ≡ nodes.Answer

-- what a search holds on its way along a path is what the search of the query has there
pub record IsStandingFor (program : Clauses) (depth : ℕ) (q : NominalQuery) (s : Standing) : Type 0 where
  pub marks : beginning mark_path (path_of_standing s) (map (mark_in q.locals) (marked_query program depth q)) ≡ marks_of_standing program (answer_by_unbound q.locals) s
  pub choosing : IsChoosing program s

abbrev pub IsStandingOf : Problem → Standing → Type 0
IsStandingOf p s = (q : NominalQuery) → slice_get (queries_in p) (p.query - 1) ≡ Some q → IsStandingFor (clauses_in p) p.depth q s

abbrev pub IsDescentOf : Problem → Descent → Type 0
IsDescentOf p d = IsStandingOf p d.standing

abbrev pub path_of_descent : Descent → List ℕ
path_of_descent d = path_of_standing d.standing

abbrev pub width_of_descent : Descent → Option ℕ
width_of_descent d = width_of_standing d.standing

-- all that the branch holds is what the search of the query has at its path
pub record IsBranchFor (program : Clauses) (depth : ℕ) (q : NominalQuery) (b : Branch) : Type 0 where
  pub marks : beginning mark_path (path_of_branch b) (map (mark_in q.locals) (marked_query program depth q)) ≡ marks_of_standing program (answer_by_unbound q.locals) b.standing
  pub choosing : IsChoosing program b.standing
  pub named : IsNamedNode program b.node b.standing

abbrev pub IsBranchOf : Problem → Branch → Type 0
IsBranchOf p b = (q : NominalQuery) → slice_get (queries_in p) (p.query - 1) ≡ Some q → IsBranchFor (clauses_in p) p.depth q b

-- The node of the search at a path: a choice where it chooses there among so many ways, and keeps these of them; an answer, cut or
-- stuck where that is its one output with just this path; and failed where it has nothing at all.
abbrev pub IsNodeAt : Clauses → ℕ → NominalQuery → List ℕ → Node → Type 0
IsNodeAt program d q p (nodes.Choice w kept) = query_choice program d q p ≡ Some (record { width = w; kept = kept })
IsNodeAt program d q p nodes.Answer = (query_choices program d q p ≡ None) × ((a : NominalAnswer) × (outs_at program d q p ≡ answers.found p a ∷ []))
IsNodeAt program d q p nodes.Cut = (query_choices program d q p ≡ None) × (outs_at program d q p ≡ answers.cut p ∷ [])
IsNodeAt program d q p nodes.Stuck = (query_choices program d q p ≡ None) × (outs_at program d q p ≡ answers.stuck p ∷ [])
IsNodeAt program d q p nodes.Failed = (query_choices program d q p ≡ None) × (outs_at program d q p ≡ [])
