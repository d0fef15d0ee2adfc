-- What is proved of search in continuation form.
use Rattle.std.specs.Prelude.{◌≡◌, ℕ, [], ◌∷◌}
use Rattle.ap_defs.specs.Answers.{query_outs}
use Rattle.ap_defs.specs.Goals.{Clauses, NominalQuery}
use Rattle.ap_defs.specs.Resolution.{first_state}
use Rattle.ap_search.specs.Continuations.{stack_outs}
use Rattle.ap_search.specs.Records.{answer_with}

-- a stack of the one goal of a query has its outputs
abbrev pub StackIsQuery : Type 0
StackIsQuery = (program : Clauses) (d : ℕ) (q : NominalQuery)
    → stack_outs program (answer_with q.locals) (record { goal = q.goal; depth = d } ∷ []) [] (first_state q) [] ≡ query_outs program d q
