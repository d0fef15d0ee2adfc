use Rattle.std.proofs.Common.{get_or}
use Rattle.ap_play.proofs.Stepping.{popped, at_get, hand_beyond}
use Rattle.ap_play.proofs.workers.pop.Goals as goal

pub returns-then-w-workers : goal.returns-then-w-workers
returns-then-w-workers c = λ past u s. hand_beyond c.args.workers.now c.args.w _ c.if-w-workers.true s.2

pub returns : goal.returns
returns c =
    let ws = c.args.workers.now in
    let d = c.index-workers-w.result in
    λ past. popped c.pop.result ws c.args.w (get_or ws c.args.w d) c.pop.new.self past (at_get ws c.args.w d c.if-w-workers.false) c.pop.ensures
