use Rattle.std.proofs.Common.{◌∙◌}
use Rattle.ap_tools.proofs.Sole.{sole_ordered}
use Rattle.ap_tools.proofs.Accounting.{steps_keep}
use Rattle.ap_steal.proofs.work.work.Goals as goal

pub returns-then-go_on-clause-order : goal.returns-then-go_on-clause-order
returns-then-go_on-clause-order g c alone sole =
    let v = c.loop.invariant.3 alone sole in
    sole_ordered c.go_on.new.tools.hand.items c.go_on.new.seat.number c.go_on.new.seat.seen (c.go_on.ensures.order v.0 v.1)

pub returns-then-go_on-clause-held : goal.returns-then-go_on-clause-held
returns-then-go_on-clause-held g c =
    let job = c.args.job in
    let now = c.loop.seat in
    steps_keep job.seat.number now.number job.seat.seen now.seen c.go_on.new.seat.seen job.tools c.loop.tools c.go_on.new.tools c.loop.invariant.1.1 c.loop.invariant.4 c.go_on.ensures.held

pub loop-preserved : goal.loop-preserved
loop-preserved g c =
    let v = c.loop.invariant in
    let e = c.go_on.ensures in
    let job = c.args.job in
    let now = c.loop.seat in (
      e.same.0 ∙ v.0,
      (e.same.0 ∙ v.1.0, e.same.1 ∙ v.1.1),
      e.own,
      (λ alone sole. (let w = v.3 alone sole in (e.alone ∙ w.0, e.order w.0 w.1))),
      steps_keep job.seat.number now.number job.seat.seen now.seen c.go_on.new.seat.seen job.tools c.loop.tools c.go_on.new.tools v.1.1 v.4 e.held,
    )
