use Rattle.std.proofs.Common.{arith}
use Rattle.ap_values.proofs.FlatLemmas.{names_further}
use Rattle.ap_values.proofs.flat.names_of.Goals as goal

pub loop-m-preserved : goal.loop-m-preserved
loop-m-preserved c = λ p same.
    names_further c.args.moved.now c.loop-m.m-index _ p c.loop-m.names.items c.push.new.self.items (omega arith) same c.in_ok-push.ensures.items (c.loop-m.invariant p same)
