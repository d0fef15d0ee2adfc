use Rattle.std.proofs.Common.{[]}
use Rattle.ap_tools.proofs.Accounting.{ends_keep, steps_keep}
use Rattle.ap_steal.proofs.work.go_on.Goals as goal

pub returns-clause-held : goal.returns-clause-held
returns-clause-held g c =
    let seat = c.args.seat.now in
    let between = c.run_next.new.seat in
    let after = c.is_over.new.seat.seen in
    let tools = c.run_next.new.tools in
    steps_keep seat.number between.number seat.seen between.seen after c.args.tools.now tools tools c.run_next.ensures.same.1 c.run_next.ensures.held (λ quiet. ends_keep between.number between.seen after [] tools c.is_over.ensures.ended)
