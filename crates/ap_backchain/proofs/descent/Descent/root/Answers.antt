use Rattle.std.proofs.Common.{◌≡◌, ap, ◌∙◌, subst}
use Rattle.ap_defs.specs.Goals.{Clauses, program_in, query_of}
use Rattle.ap_defs.specs.Types.{locals_of}
use Rattle.ap_turns.specs.Standings.{IsChoosing, marks_of_standing}
use Rattle.ap_turns.specs.Marks.{marks_from}
use Rattle.ap_machine.specs.Machines.{position_of}
use Rattle.ap_machine.specs.Positions.{Position}
use Rattle.ap_backchain.specs.Problems.{clauses_in}
use Rattle.ap_backchain.proofs.BranchLemmas.{root_stands}
use Rattle.ap_search.specs.Records.{Answering}
use Rattle.ap_machine.specs.Unbound.{answer_by_unbound}
use Rattle.ap_backchain.proofs.descent.Descent.root.Goals as goal

pub returns-clause-of : goal.returns-clause-of
returns-clause-of c =
    let p = c.args.p.now in
    let query = query_of c.query_of_problem-query.result.now in
    let s = c.in_ok-standing.standing in
    let machine = position_of c.in_ok-machine.machine in
    let same = c.clauses_of_problem-clauses.ensures.clauses in
    let given = program_in c.clauses_of_problem-clauses.result.now in
    let marks = subst (λ (x : Clauses). marks_of_standing x (answer_by_unbound query.locals) s ≡ marks_from x (answer_by_unbound query.locals) machine) same
    (subst (λ (ls : Answering). marks_of_standing given ls s ≡ marks_from given ls machine) (ap (λ ls. answer_by_unbound (locals_of ls)) c.items.ensures) c.in_ok-standing.ensures.marks) in
    root_stands p query s c.query_of_problem-query.ensures.query c.clauses_of_problem-clauses.ensures.typed c.query_of_problem-query.ensures.typed
    (c.in_ok-standing.ensures.path ∙ ap (λ (x : Position). x.path) c.in_ok-machine.ensures)
    (marks ∙ ap (λ (x : Position). marks_from (clauses_in p) (answer_by_unbound query.locals) x) c.in_ok-machine.ensures)
    (subst (λ (x : Clauses). IsChoosing x s) same c.in_ok-standing.ensures.choosing)
