use Rattle.std.proofs.Common.{◌-◌, arith}
use Rattle.ap_judge.proofs.SwappingLemmas.{inverse_more}
use Rattle.ap_judge.proofs.suspensions.reversed.Goals as goal

pub loop-i-preserved : goal.loop-i-preserved
loop-i-preserved c = inverse_more c.args.swaps.now c.loop-i.i (c.loop-i.i - 1) _ c.loop-i.all.items c.push.new.self.items (omega arith) (omega arith) c.in_ok-push.ensures.items c.loop-i.invariant
