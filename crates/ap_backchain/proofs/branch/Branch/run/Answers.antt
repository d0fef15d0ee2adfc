use Rattle.std.proofs.Common.{◌∙◌, ◌≡◌, map, ap, subst}
use Rattle.std.specs.Prelude.{IfOk}
use Rattle.ap_defs.specs.Answers.{outs_of}
use Rattle.ap_defs.specs.Goals.{Clauses, program_in, query_of}
use Rattle.ap_defs.specs.Types.{locals_of}
use Rattle.ap_search.specs.Marks.{outs_among}
use Rattle.ap_turns.specs.Standings.{marks_of_standing}
use Rattle.ap_backchain.specs.Ends.{kept_out}
use Rattle.ap_backchain.proofs.BranchLemmas.{run_is}
use Rattle.ap_search.specs.Records.{Answering}
use Rattle.ap_machine.specs.Unbound.{answer_by_unbound}
use Rattle.ap_backchain.proofs.branch.Branch.run.Goals as goal

pub returns : goal.returns
returns c =
    let query = query_of c.query_of_problem-query.result.now in
    let s = c.args.self.standing in
    let given = program_in c.clauses_of_problem-clauses.result.now in
    run_is c.args.p.now c.args.paths query c.args.self c.outs_of_standing.result c.query_of_problem-query.ensures.query c.requires.of
    (subst (λ (x : Clauses). IfOk c.outs_of_standing.result (λ v. outs_of v.items ≡ map (kept_out c.args.paths) (outs_among (marks_of_standing x (answer_by_unbound query.locals) s)))) c.clauses_of_problem-clauses.ensures.clauses
    (subst (λ (ls : Answering). IfOk c.outs_of_standing.result (λ v. outs_of v.items ≡ map (kept_out c.args.paths) (outs_among (marks_of_standing given ls s)))) (c.in_ok-asked.ensures ∙ ap (λ ls. answer_by_unbound (locals_of ls)) c.items.ensures) c.outs_of_standing.ensures))
