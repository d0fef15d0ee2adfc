use Rattle.std.proofs.Common.{◌∙◌, ◌<◌, sym, get_or, set, length, true≢false, arith}
use Rattle.ap_tools.proofs.Places.{set_length}
use Rattle.ap_play.proofs.Stepping.{stolen, not_stolen, busy, at_get, hand_beyond, deque_beyond}
use Rattle.ap_play.proofs.workers.steal.Goals as goal

pub returns-then-w-workers : goal.returns-then-w-workers
returns-then-w-workers c = λ past u s. hand_beyond c.args.workers.now c.args.w _ c.if-w-workers.true s.2

pub returns-then-from-workers : goal.returns-then-from-workers
returns-then-from-workers c = λ past u s. deque_beyond c.args.workers.now c.args.from _ c.if-from-workers.true s.3

pub returns-then-not-is_idle : goal.returns-then-not-is_idle
returns-then-not-is_idle c =
    let ws = c.args.workers.now in
    let d = c.index-workers-w.result in
    λ past. busy ws c.args.w c.args.from (get_or ws c.args.w d) past (at_get ws c.args.w d c.if-w-workers.false) (λ e. true≢false (sym (c.is_idle.ensures.1 e) ∙ c.if-not-is_idle.true))

pub returns-in_default : goal.returns-in_default
returns-in_default c =
    let ws = c.args.workers.now in
    let d = c.index-workers-from.result in
    λ past. not_stolen ws c.args.w c.args.from (get_or ws c.args.from d) c.give.new.self past (at_get ws c.args.from d c.if-from-workers.false) c.in_default.ensures

pub returns : goal.returns
returns c =
    let ws = c.args.workers.now in
    let i = c.args.w in
    let j = c.args.from in
    let d = c.index-workers-w.result in
    let e = c.index-workers-from.result in
    let o = c.give.new.self in
    let x = c.index-workers-w-2.result in
    let longer : i < length (set ws j o) = (let z = set_length ws j o in let y = c.if-w-workers.false in omega arith) in
    λ past. stolen ws i j (get_or ws i d) (get_or ws j e) o (get_or (set ws j o) i x) c.take.new.self c.in-Some.path past (λ s. c.if-w-from.false (sym s)) (at_get ws i d c.if-w-workers.false)
    (c.is_idle.ensures.0 c.if-not-is_idle.false) (at_get ws j e c.if-from-workers.false) c.in-Some.ensures (at_get (set ws j o) i x longer) c.in_ok-take.ensures.hand c.in_ok-take.ensures.deque
