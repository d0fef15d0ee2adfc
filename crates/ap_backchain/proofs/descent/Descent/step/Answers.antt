use Rattle.std.proofs.Common.{◌≡◌, ◌∷◌, ◌++◌, [], ap, sym, subst}
use Rattle.ap_defs.specs.Goals.{Clauses, program_in, query_of}
use Rattle.ap_defs.specs.Types.{locals_of}
use Rattle.ap_search.specs.Marks.{mark_path}
use Rattle.ap_search.specs.Prefixes.{beginning}
use Rattle.ap_turns.specs.Standings.{IsChoosing, marks_of_standing, path_of_standing}
use Rattle.ap_backchain.proofs.BranchLemmas.{step_stands, way_stands}
use Rattle.ap_search.specs.Records.{Answering}
use Rattle.ap_machine.specs.Unbound.{answer_by_unbound}
use Rattle.ap_backchain.proofs.descent.Descent.step.Goals as goal

pub choose-requires-clause-choosing : goal.choose-requires-clause-choosing
choose-requires-clause-choosing c =
    let query = query_of c.query_of_problem-query.result.now in
    subst (λ (x : Clauses). IsChoosing x c.args.self.standing) (sym c.clauses_of_problem-clauses.ensures.clauses) (c.requires.of query c.query_of_problem-query.ensures.query).choosing

pub choose-requires-clause-choice : goal.choose-requires-clause-choice
choose-requires-clause-choice c = way_stands c.args.self.standing c.args.choice c.requires.choice

pub returns-clause-of : goal.returns-clause-of
returns-clause-of c =
    let p = c.args.p.now in
    let query = query_of c.query_of_problem-query.result.now in
    let from = c.args.self.standing in
    let s = c.in_ok-standing.standing in
    let k = c.args.choice in
    let same = c.clauses_of_problem-clauses.ensures.clauses in
    let given = program_in c.clauses_of_problem-clauses.result.now in
    let marks = subst (λ (x : Clauses). marks_of_standing x (answer_by_unbound query.locals) s ≡ beginning mark_path (path_of_standing from ++ k ∷ []) (marks_of_standing x (answer_by_unbound query.locals) from)) same
    (subst (λ (ls : Answering). marks_of_standing given ls s ≡ beginning mark_path (path_of_standing from ++ k ∷ []) (marks_of_standing given ls from)) (ap (λ ls. answer_by_unbound (locals_of ls)) c.items.ensures) c.in_ok-standing.ensures.marks) in
    step_stands p query from s k c.query_of_problem-query.ensures.query c.requires.of
    c.in_ok-standing.ensures.path marks (subst (λ (x : Clauses). IsChoosing x s) same c.in_ok-standing.ensures.choosing)
