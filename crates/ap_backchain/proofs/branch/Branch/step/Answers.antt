use Rattle.ap_backchain.proofs.AnsweringLemmas.{branch_ways}
use Rattle.ap_backchain.proofs.BranchLemmas.{branch_stands}
use Rattle.ap_backchain.proofs.branch.Branch.step.Goals as goal

pub step-requires-clause-of : goal.step-requires-clause-of
step-requires-clause-of c = branch_stands c.args.p.now c.args.self c.requires.of

pub step-requires-clause-choice : goal.step-requires-clause-choice
step-requires-clause-choice c = branch_ways c.args.p.now c.args.self c.args.choice c.requires.query c.requires.of c.requires.choice
