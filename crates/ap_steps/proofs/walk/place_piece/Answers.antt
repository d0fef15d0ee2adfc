use Rattle.std.proofs.Common.{refl}
use Rattle.ap_steps.proofs.WaitLemmas.{premise_counts, premise_waits}
use Rattle.ap_steps.proofs.walk.place_piece.Goals as goal

pub returns-in_ok-push-in-Premise-clause-steps : goal.returns-in_ok-push-in-Premise-clause-steps
returns-in_ok-push-in-Premise-clause-steps c = λ w.
    rw c.in-Premise.is (premise_waits w c.args.depth c.args.waiting.now.items c.push-in-Premise.new.self.items _ c.in_ok-push-in-Premise.ensures.items refl)

pub returns-in_ok-push-in-Premise-clause-nodes : goal.returns-in_ok-push-in-Premise-clause-nodes
returns-in_ok-push-in-Premise-clause-nodes c =
    rw c.in-Premise.is (premise_counts c.args.waiting.now.items c.push-in-Premise.new.self.items _ c.in_ok-push-in-Premise.ensures.items)
