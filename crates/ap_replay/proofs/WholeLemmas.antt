-- The outputs of a problem at the empty path are all of its query.
use Rattle.std.proofs.Common.{◌≡◌, List, [], ◌∷◌, refl, ap, ◌∙◌}
use Rattle.std.specs.Prelude.{◌-◌, Some, filter, slice_get}
use Rattle.ap_defs.specs.Answers.{NominalOut, out_path, query_outs}
use Rattle.ap_defs.specs.Goals.{NominalQuery}
use Rattle.ap_defs.specs.PathOrder.{has_prefix}
use Rattle.ap_backchain.specs.Problems.{clauses_in, queries_in}
use Rattle.ap_backchain.specs.declared.problem.Problem.{Problem}
use Rattle.ap_replay.specs.ProblemTrees.{outs_of_asked, problem_outs}

all_begin : (os : List NominalOut) → filter (λ o. has_prefix [] (out_path o)) os ≡ os
all_begin [] = refl
all_begin (o ∷ os) = ap (λ l. o ∷ l) (all_begin os)

pub whole_is_query : (p : Problem) (q : NominalQuery) → slice_get (queries_in p) (p.query - 1) ≡ Some q → problem_outs p [] ≡ query_outs (clauses_in p) p.depth q
whole_is_query p q asked = ap (λ o. outs_of_asked (clauses_in p) p.depth o []) asked ∙ all_begin (query_outs (clauses_in p) p.depth q)
