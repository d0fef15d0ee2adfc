use Rattle.std.proofs.Common.{◌≡◌, ◌<◌, map, subst}
use Rattle.std.specs.Prelude.{IfOk, IfSome, None}
use Rattle.ap_defs.specs.Answers.{outs_of}
use Rattle.ap_defs.specs.Goals.{Clauses, NominalQuery, query_of}
use Rattle.ap_paths.specs.Limits.{part}
use Rattle.ap_backchain.specs.Ends.{kept_out}
use Rattle.ap_machine.specs.Positions.{outs_from}
use Rattle.ap_backchain.specs.Problems.{clauses_in}
use Rattle.ap_backchain.specs.Starts.{first_position}
use Rattle.ap_backchain.specs.Turns.{few_turns, query_turns}
use Rattle.ap_backchain.proofs.BranchLemmas.{asked_once, few_outputs, if_none}
use Rattle.ap_machine.specs.Unbound.{answer_by_unbound}
use Rattle.ap_backchain.proofs.problem.short_outputs.Goals as goal

pub returns-clause-outs : goal.returns-clause-outs
returns-clause-outs c =
    let query = query_of c.query_of_problem-query.result.now in
    few_outputs c.args.p.now c.args.paths c.args.limit query c.query_of_problem-query.ensures.query c.clauses_of_problem-clauses.ensures.typed c.query_of_problem-query.ensures.typed c.outputs_of_short_query.result
    (subst (λ (x : Clauses). IfOk c.outputs_of_short_query.result (λ o. IfSome o (λ v. outs_of v.items ≡ map (kept_out c.args.paths) (part c.args.limit (outs_from x (answer_by_unbound query.locals) (first_position c.args.p.now.depth query)))))) c.clauses_of_problem-clauses.ensures.clauses c.outputs_of_short_query.ensures.outs)

pub returns-clause-many : goal.returns-clause-many
returns-clause-many c =
    let query = query_of c.query_of_problem-query.result.now in
    let r = c.outputs_of_short_query.result in
    if_none _ _ (λ h. λ q k. subst (λ (x : NominalQuery). few_turns < query_turns (clauses_in c.args.p.now) c.args.p.now.depth x) (asked_once _ query q c.query_of_problem-query.ensures.query k) h) r
    (subst (λ (x : Clauses). IfOk r (λ o. o ≡ None → few_turns < query_turns x c.args.p.now.depth query)) c.clauses_of_problem-clauses.ensures.clauses c.outputs_of_short_query.ensures.many)
