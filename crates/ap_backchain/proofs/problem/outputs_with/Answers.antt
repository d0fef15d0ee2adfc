use Rattle.std.proofs.Common.{◌≡◌, map, subst}
use Rattle.std.specs.Prelude.{IfOk}
use Rattle.ap_defs.specs.Answers.{outs_of}
use Rattle.ap_defs.specs.Goals.{Clauses, query_of}
use Rattle.ap_paths.specs.Limits.{part}
use Rattle.ap_backchain.specs.Ends.{kept_out}
use Rattle.ap_machine.specs.Positions.{outs_from}
use Rattle.ap_backchain.specs.Starts.{first_position}
use Rattle.ap_backchain.proofs.BranchLemmas.{all_outputs}
use Rattle.ap_machine.specs.Unbound.{answer_by_unbound}
use Rattle.ap_backchain.proofs.problem.outputs_with.Goals as goal

pub returns : goal.returns
returns c =
    let query = query_of c.query_of_problem-query.result.now in
    all_outputs c.args.p.now c.args.paths c.args.limit query c.query_of_problem-query.ensures.query c.clauses_of_problem-clauses.ensures.typed c.query_of_problem-query.ensures.typed c.outputs_of_query.result
    (subst (λ (x : Clauses). IfOk c.outputs_of_query.result (λ v. outs_of v.items ≡ map (kept_out c.args.paths) (part c.args.limit (outs_from x (answer_by_unbound query.locals) (first_position c.args.p.now.depth query))))) c.clauses_of_problem-clauses.ensures.clauses c.outputs_of_query.ensures)
