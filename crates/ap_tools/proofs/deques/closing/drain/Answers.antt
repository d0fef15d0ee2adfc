use Rattle.ap_tools.proofs.Closings.{pops_at, drained}
use Rattle.ap_tools.proofs.deques.closing.drain.Goals as goal

pub pop_as-requires-clause-lifo : goal.pop_as-requires-clause-lifo
pop_as-requires-clause-lifo g c _ = pops_at _ _ c.loop-path.invariant.0.0

pub returns : goal.returns
returns g c h = drained _ _ _ _ _ c.loop-path.invariant.1 c.in_default.ensures.rule.1 h
