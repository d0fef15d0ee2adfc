use Rattle.std.proofs.Common.{arith}
use Rattle.ap_unparse.proofs.GoalSteps.{further_next}
use Rattle.ap_unparse.proofs.goals.write_further.Goals as goal

pub loop-t-preserved : goal.loop-t-preserved
loop-t-preserved c =
    further_next c.args.terms.now c.t-item.result c.loop-t.t-index c.loop-t.out.items c.push.new.self.items c.write_tree.new.out.items _ (omega arith) c.t-item.is c.in_ok-push.ensures.items c.in_ok-write_tree.ensures
    c.loop-t.invariant
