use Rattle.std.proofs.Common.{sym, subst}
use Rattle.ap_defs.specs.Goals.{Clauses}
use Rattle.ap_turns.specs.Standings.{IsChoosing, IsNamedNode}
use Rattle.ap_backchain.proofs.AnsweringLemmas.{standing_chooses}
use Rattle.ap_backchain.proofs.BranchLemmas.{named_branch}
use Rattle.ap_backchain.proofs.descent.Descent.stop.Goals as goal

pub branch_at-requires-clause-choosing : goal.branch_at-requires-clause-choosing
branch_at-requires-clause-choosing c =
    subst (λ (x : Clauses). IsChoosing x c.args.self.standing) (sym c.clauses_of_problem-clauses.ensures.clauses) (standing_chooses c.args.p.now c.args.self.standing c.requires.query c.requires.of)

pub returns-clause-of : goal.returns-clause-of
returns-clause-of c =
    let b = c.in_ok-branch.branch in
    named_branch c.args.p.now b c.args.self.standing c.in_ok-branch.ensures.standing c.requires.of
    (subst (λ (x : Clauses). IsNamedNode x b.node b.standing) c.clauses_of_problem-clauses.ensures.clauses c.in_ok-branch.ensures.named)
