use Rattle.std.proofs.Common.{arith}
use Rattle.ap_values.proofs.FlatLemmas.{rest_further, rest_last}
use Rattle.ap_values.proofs.flat.add_rest.Goals as goal

pub loop-i-preserved : goal.loop-i-preserved
loop-i-preserved c = λ p same.
    rest_further c.args.moved.now c.loop-i.i _ p c.loop-i.names.items c.push.new.self.items (omega arith) same c.in_ok-push.ensures.items _ (c.loop-i.invariant p same)

pub returns : goal.returns
returns c = λ p same. rest_last c.args.moved.now c.loop-i.i p c.loop-i.names.items _ (omega arith) same (c.loop-i.invariant p same)
