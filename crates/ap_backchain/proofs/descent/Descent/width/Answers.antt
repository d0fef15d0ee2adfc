use Rattle.std.proofs.Common.{◌∙◌}
use Rattle.ap_backchain.proofs.BranchLemmas.{width_at}
use Rattle.ap_backchain.specs.Problems.{clauses_in}
use Rattle.ap_backchain.proofs.descent.Descent.width.Goals as goal

pub returns-clause-exact : goal.returns-clause-exact
returns-clause-exact c = λ p q asked of.
    let there = of q asked in
    c.width_of.ensures ∙ width_at (clauses_in p) p.depth q c.args.self.now.standing there.marks there.choosing
