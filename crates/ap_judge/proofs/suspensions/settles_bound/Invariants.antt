use Rattle.std.proofs.Common.{◌≡◌, drop}
use Rattle.ap_judge.specs.Settled.{are_bound_settled}
use Rattle.ap_judge.proofs.suspensions.settles_bound.Given as goal

abbrev pub invariant-loop-s : goal.invariant-loop-s
invariant-loop-s l =
    are_bound_settled l.answer.conds l.binders.pairs.items l.p l.q l.var (drop l.s-index l.binders.pairs.items)
    ≡ are_bound_settled l.answer.conds l.binders.pairs.items l.p l.q l.var l.binders.pairs.items
