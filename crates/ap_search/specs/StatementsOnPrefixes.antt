-- What is proved of the paths of a stack.
use Rattle.std.specs.Prelude.{◌≡◌, ℕ, ◌+◌, ◌<◌, List, [], ◌∷◌, ◌++◌, map, length, slice_index_or as get_or}
use Rattle.ap_defs.specs.declared.terms.Var.{Var}
use Rattle.ap_defs.specs.Answers.{out_path}
use Rattle.ap_defs.specs.Goals.{Clauses, NominalClause, NominalQuery}
use Rattle.ap_defs.specs.Resolution.{State, first_state}
use Rattle.ap_defs.specs.Paths.{marked_query}
use Rattle.ap_defs.specs.Terms.{NominalTerm}
use Rattle.ap_search.specs.Continuations.{calls_then, clause_then, clauses_then, goal_then, outputs_alone, stack_outs, Waiting}
use Rattle.ap_search.specs.Marks.{mark_in, mark_path, outs_among, stack_marks}
use Rattle.ap_search.specs.Prefixes.{AllBegin, beginning}
use Rattle.ap_search.specs.Records.{Answering, answer_with}

-- what a stack has from a path on begins with that path
abbrev pub StackBegins : Type 0
StackBegins = (program : Clauses) (answering : Answering) (ws : List Waiting) (p : List ℕ) (s : State) (xs : List Var)
    → AllBegin out_path p (stack_outs program answering ws p s xs)

abbrev pub MarkedStackBegins : Type 0
MarkedStackBegins = (program : Clauses) (answering : Answering) (ws : List Waiting) (p : List ℕ) (s : State) (xs : List Var)
    → AllBegin mark_path p (stack_marks program answering ws p s xs)

-- without the choices, the marks of a stack are its outputs
abbrev pub MarksAmongStack : Type 0
MarksAmongStack = (program : Clauses) (answering : Answering) (ws : List Waiting) (p : List ℕ) (s : State) (xs : List Var)
    → outs_among (stack_marks program answering ws p s xs) ≡ stack_outs program answering ws p s xs

-- a stack of the one goal of a query has its marks
abbrev pub MarkedStackIsQuery : Type 0
MarkedStackIsQuery = (program : Clauses) (d : ℕ) (q : NominalQuery)
    → stack_marks program (answer_with q.locals) (record { goal = q.goal; depth = d } ∷ []) [] (first_state q) [] ≡ map (mark_in q.locals) (marked_query program d q)

-- of the clauses that are numbered from n on, the i-th has what is below it
abbrev pub ClausesHaveTheirWays : Type 0
ClausesHaveTheirWays = (program : Clauses) (d : ℕ) (answering : Answering) (ws : List Waiting) (ts : List NominalTerm) (p : List ℕ) (s : State) (xs : List Var)
    (n i : ℕ) (c : NominalClause) (cs : List NominalClause) → i < length cs
    → beginning out_path (p ++ (n + i) ∷ []) (clauses_then (goal_then outputs_alone (calls_then outputs_alone program d)) ts (stack_outs program answering ws) n cs p s xs)
    ≡ clause_then (goal_then outputs_alone (calls_then outputs_alone program d)) ts (stack_outs program answering ws) (n + i) (get_or cs i c) p s xs
