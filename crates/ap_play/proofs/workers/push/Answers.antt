use Rattle.std.proofs.Common.{get_or}
use Rattle.ap_play.proofs.Stepping.{pushed, at_get, hand_beyond}
use Rattle.ap_play.proofs.workers.push.Goals as goal

pub returns-then-w-workers : goal.returns-then-w-workers
returns-then-w-workers c = λ past u s. hand_beyond c.args.workers.now c.args.w _ c.if-w-workers.true s.3

pub returns : goal.returns
returns c =
    let ws = c.args.workers.now in
    let d = c.index-workers-w.result in
    λ past. pushed c.push.result ws c.args.w (get_or ws c.args.w d) c.push.new.self past (at_get ws c.args.w d c.if-w-workers.false) c.push.ensures
