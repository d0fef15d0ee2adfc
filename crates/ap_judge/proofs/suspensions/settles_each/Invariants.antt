use Rattle.std.proofs.Common.{◌≡◌, drop}
use Rattle.ap_judge.specs.Settled.{are_settled}
use Rattle.ap_judge.proofs.suspensions.settles_each.Given as goal

abbrev pub invariant-loop-s : goal.invariant-loop-s
invariant-loop-s l = are_settled l.answer.conds l.binders.pairs.items l.p l.q l.var (drop l.s-index l.of) ≡ are_settled l.answer.conds l.binders.pairs.items l.p l.q l.var l.of
