use Rattle.std.proofs.Common.{◌∙◌, ◌≡◌, ◌<◌, ◌≤◌, ℕ, map, ap, subst}
use Rattle.std.specs.Prelude.{IfOk, IfSome, None}
use Rattle.ap_defs.specs.Answers.{outs_of}
use Rattle.ap_defs.specs.Goals.{Clauses, program_in, query_of}
use Rattle.ap_defs.specs.Types.{locals_of}
use Rattle.ap_search.specs.Marks.{outs_among}
use Rattle.ap_turns.specs.Standings.{marks_of_standing}
use Rattle.ap_backchain.specs.Ends.{kept_out}
use Rattle.ap_turns.specs.Marks.{choices_among}
use Rattle.ap_backchain.proofs.BranchLemmas.{choices_below, if_none, if_some, outs_below}
use Rattle.ap_search.specs.Records.{Answering}
use Rattle.ap_machine.specs.Unbound.{answer_by_unbound}
use Rattle.ap_backchain.proofs.branch.Branch.run_within.Goals as goal

pub returns-clause-outs : goal.returns-clause-outs
returns-clause-outs c =
    let query = query_of c.query_of_problem-query.result.now in
    let s = c.args.self.standing in
    let r = c.outs_by_choices.result in
    let given = program_in c.clauses_of_problem-clauses.result.now in
    if_some _ _ (λ v h. outs_below c.args.p.now query c.args.self c.query_of_problem-query.ensures.query c.requires.of c.args.paths (outs_of v.items) h) r
    (subst (λ (x : Clauses). IfOk r (λ o. IfSome o (λ v. outs_of v.items ≡ map (kept_out c.args.paths) (outs_among (marks_of_standing x (answer_by_unbound query.locals) s))))) c.clauses_of_problem-clauses.ensures.clauses
    (subst (λ (ls : Answering). IfOk r (λ o. IfSome o (λ v. outs_of v.items ≡ map (kept_out c.args.paths) (outs_among (marks_of_standing given ls s))))) (c.in_ok-asked.ensures ∙ ap (λ ls. answer_by_unbound (locals_of ls)) c.items.ensures) c.outs_by_choices.ensures.outs))

pub returns-clause-few : goal.returns-clause-few
returns-clause-few c =
    let query = query_of c.query_of_problem-query.result.now in
    let s = c.args.self.standing in
    let r = c.outs_by_choices.result in
    let given = program_in c.clauses_of_problem-clauses.result.now in
    if_some _ _ (λ v h. λ q k. subst (λ (n : ℕ). n ≤ c.args.most) (choices_below c.args.p.now query c.args.self c.query_of_problem-query.ensures.query c.requires.of q k) h) r
    (subst (λ (x : Clauses). IfOk r (λ o. IfSome o (λ v. choices_among (marks_of_standing x (answer_by_unbound query.locals) s) ≤ c.args.most))) c.clauses_of_problem-clauses.ensures.clauses
    (subst (λ (ls : Answering). IfOk r (λ o. IfSome o (λ v. choices_among (marks_of_standing given ls s) ≤ c.args.most))) (c.in_ok-asked.ensures ∙ ap (λ ls. answer_by_unbound (locals_of ls)) c.items.ensures) c.outs_by_choices.ensures.few))

pub returns-clause-many : goal.returns-clause-many
returns-clause-many c =
    let query = query_of c.query_of_problem-query.result.now in
    let s = c.args.self.standing in
    let r = c.outs_by_choices.result in
    let given = program_in c.clauses_of_problem-clauses.result.now in
    if_none _ _ (λ h. λ q k. subst (λ (n : ℕ). c.args.most < n) (choices_below c.args.p.now query c.args.self c.query_of_problem-query.ensures.query c.requires.of q k) h) r
    (subst (λ (x : Clauses). IfOk r (λ o. o ≡ None → c.args.most < choices_among (marks_of_standing x (answer_by_unbound query.locals) s))) c.clauses_of_problem-clauses.ensures.clauses
    (subst (λ (ls : Answering). IfOk r (λ o. o ≡ None → c.args.most < choices_among (marks_of_standing given ls s))) (c.in_ok-asked.ensures ∙ ap (λ ls. answer_by_unbound (locals_of ls)) c.items.ensures) c.outs_by_choices.ensures.many))
