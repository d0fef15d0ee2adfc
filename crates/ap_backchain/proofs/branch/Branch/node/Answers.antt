use Rattle.ap_backchain.proofs.BranchLemmas.{node_at}
use Rattle.ap_backchain.specs.Problems.{clauses_in}
use Rattle.ap_backchain.proofs.branch.Branch.node.Goals as goal

pub returns-clause-exact : goal.returns-clause-exact
returns-clause-exact c = λ p q asked of. let b = of q asked in node_at (clauses_in p) p.depth q c.args.self.now.node c.args.self.now.standing b.marks b.named
