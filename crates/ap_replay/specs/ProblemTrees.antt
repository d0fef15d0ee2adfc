-- The tree of paths of a problem.
use Rattle.std.specs.Prelude.{◌-◌, ℕ, Bool, nat_lt, if◌then◌else◌, List, [], map, Option, Some, None, Vec, slice_get}
use Rattle.ap_defs.specs.Answers.{NominalOut, outs_at}
use Rattle.ap_defs.specs.Goals.{Clauses, NominalQuery}
use Rattle.ap_defs.specs.declared.paths.Node.{Node}
use Rattle.ap_defs.specs.declared.paths.Node.TheVariants as nodes
use Rattle.ap_paths.specs.Entries as entries
use Rattle.ap_paths.specs.Entries.{Plan}
use Rattle.ap_search.specs.PathTrees.{query_choices, query_kept}
use Rattle.ap_backchain.specs.Branches.{choices_at}
use Rattle.ap_backchain.specs.Ends.{kept_out}
use Rattle.ap_backchain.specs.Problems.{clauses_in, queries_in}
use Rattle.ap_backchain.specs.declared.problem.Problem.{Problem}
use Rattle.ap_backchain.specs.declared.run.Paths.{Paths}

abbrev pub query_in : Problem → Option NominalQuery
query_in p = slice_get (queries_in p) (p.query - 1)

abbrev pub choices_of : Clauses → ℕ → Option NominalQuery → List ℕ → Option ℕ
choices_of program d None path = None
choices_of program d (Some q) path = query_choices program d q path

abbrev pub kept_of : Clauses → ℕ → Option NominalQuery → List ℕ → Option (List ℕ)
kept_of program d None path = None
kept_of program d (Some q) path = query_kept program d q path

abbrev pub outs_of_asked : Clauses → ℕ → Option NominalQuery → List ℕ → List NominalOut
outs_of_asked program d None path = []
outs_of_asked program d (Some q) path = outs_at program d q path

-- among how many the search of the problem chooses at a path, where it does
abbrev pub problem_choices : Problem → List ℕ → Option ℕ
problem_choices p = choices_of (clauses_in p) p.depth (query_in p)

-- and which of the ways it keeps there
abbrev pub problem_kept : Problem → List ℕ → Option (List ℕ)
problem_kept p = kept_of (clauses_in p) p.depth (query_in p)

-- the outputs of the problem below a path
abbrev pub problem_outs : Problem → List ℕ → List NominalOut
problem_outs p = outs_of_asked (clauses_in p) p.depth (query_in p)

-- with their paths or without
abbrev pub kept_outs : Paths → Problem → List ℕ → List NominalOut
kept_outs paths p path = map (kept_out paths) (problem_outs p path)

abbrev pub choices_below_of : Clauses → ℕ → Option NominalQuery → List ℕ → ℕ
choices_below_of program d None path = 0
choices_below_of program d (Some q) path = choices_at program d q path

-- how many choices the search of the problem makes at a path and below it
abbrev pub choices_below : Problem → List ℕ → ℕ
choices_below p path = choices_below_of (clauses_in p) p.depth (query_in p) path

-- a choice has the ways that it keeps as kids
abbrev pub shared_out : Option (List ℕ) → List NominalOut → Plan
shared_out None os = entries.outs os
shared_out (Some ks) os = entries.kids ks

-- a choice is shared out that leads to more than so many
abbrev pub is_shared : ℕ → Problem → List ℕ → Bool
is_shared most p path = nat_lt most (choices_below p path)

-- all else is searched whole
abbrev pub shared_plan : Paths → Problem → ℕ → List ℕ → Plan
shared_plan paths p most path =
    if is_shared most p path then shared_out (problem_kept p path) (kept_outs paths p path) else entries.outs (kept_outs paths p path)

-- and so is everything, where no bound is given
abbrev pub problem_plan : Paths → Problem → Option ℕ → List ℕ → Plan
problem_plan paths p None path = entries.outs (kept_outs paths p path)
problem_plan paths p (Some most) path = shared_plan paths p most path

-- the kids of a branch, where it is at a choice
abbrev pub node_kids : Node → Option (List ℕ)
node_kids (nodes.Choice w kept) = Some kept
node_kids _ = None

abbrev pub kid_numbers : {Z : Type 0} → Option (Vec ℕ Z) → Option (List ℕ)
kid_numbers None = None
kid_numbers (Some v) = Some v.items
