use Rattle.std.proofs.Common.{arith, ◌∙◌}
use Rattle.ap_tools.proofs.Allowed.{look_at}
use Rattle.ap_tools.proofs.locked.shared.SharedBook.take.Goals as goal

pub load-requires : goal.load-requires
load-requires g c =
    let n = c.args.self.now.words in
    (c.loop.invariant.0 ∙ c.requires.0, omega arith, look_at _ _ _ c.draw-ticket.result c.args.seat.now.me.0 _ c.loop.invariant.1)
