use Rattle.std.proofs.Common.{◌∙◌, ap, get_or}
use Rattle.ap_paths.specs.Merging.{insert}
use Rattle.ap_play.proofs.Stepping.{end_made, nothing_begun, began_there, at_get, hand_beyond}
use Rattle.ap_play.proofs.steps.done.Goals as goal

pub returns-then-w-workers : goal.returns-then-w-workers
returns-then-w-workers g c = λ skipped u s. hand_beyond c.args.workers.now c.args.w _ c.if-w-workers.true s.2

pub returns-in_default : goal.returns-in_default
returns-in_default g c =
    let ws = c.args.workers.now in
    let d = c.index-workers-w.result in
    λ skipped u s. nothing_begun ws c.args.w (get_or ws c.args.w d) c.begin.new.self s.1 s.0 (at_get ws c.args.w d c.if-w-workers.false) c.in_default.ensures s.2

pub outs-requires : goal.outs-requires
outs-requires g c =
    let ws = c.args.workers.now in
    let d = c.index-workers-w.result in
    c.requires c.args.w c.in-Some.path c.begin.new.self.hand.items (began_there ws c.args.w (get_or ws c.args.w d) c.begin.new.self c.in-Some.path (at_get ws c.args.w d c.if-w-workers.false) c.in-Some.ensures)

pub returns : goal.returns
returns g c =
    let ws = c.args.workers.now in
    let d = c.index-workers-w.result in
    let p = c.in-Some.path in
    let ends = c.args.endings.now in
    λ skipped. end_made (g.T.Tree.at c.args.tree.now) ws c.args.w (get_or ws c.args.w d) c.begin.new.self p c.in_ok-outs.outs.items ends c.put.new.self skipped (at_get ws c.args.w d c.if-w-workers.false) c.in-Some.ensures c.in_ok-outs.ensures
    (c.in_ok-put.ensures.ok ∙ ap (λ o. insert p o ends) c.of.ensures)
