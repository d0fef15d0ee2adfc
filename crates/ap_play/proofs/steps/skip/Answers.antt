use Rattle.std.proofs.Common.{◌<◌, ◌≤◌, get_or, arith}
use Rattle.ap_paths.specs.Ends.{ends_of}
use Rattle.ap_paths.specs.Merging.{found_before}
use Rattle.ap_play.proofs.Stepping.{skip_made, not_skipped, nothing_begun, at_get, hand_beyond}
use Rattle.ap_play.proofs.steps.skip.Goals as goal

pub returns-then-w-workers : goal.returns-then-w-workers
returns-then-w-workers c = λ u s. hand_beyond c.args.workers.now c.args.w _ c.if-w-workers.true s.2

pub returns-in_default : goal.returns-in_default
returns-in_default c =
    let ws = c.args.workers.now in
    let d = c.index-workers-w.result in
    λ u s. nothing_begun ws c.args.w (get_or ws c.args.w d) c.begin.new.self s.1 s.0 (at_get ws c.args.w d c.if-w-workers.false) c.in_default.ensures s.2

pub returns-then-there-found : goal.returns-then-there-found
returns-then-there-found c =
    let ws = c.args.workers.now in
    let d = c.index-workers-w.result in
    let p = c.in-Some.path in
    let ends = c.args.endings.now in
    let short : found_before p (ends_of ends) < c.args.found = (let z = c.answers_before-there.ensures in let y = c.if-there-found.true in let x = c.ranges.found in omega arith) in
    not_skipped ws c.args.w (get_or ws c.args.w d) c.begin.new.self p c.args.found ends c.args.skipped.now.items (at_get ws c.args.w d c.if-w-workers.false) c.in-Some.ensures short

pub returns : goal.returns
returns c =
    let ws = c.args.workers.now in
    let d = c.index-workers-w.result in
    let p = c.in-Some.path in
    let ends = c.args.endings.now in
    let enough : c.args.found ≤ found_before p (ends_of ends) = (let z = c.answers_before-there.ensures in let y = c.if-there-found.false in omega arith) in
    skip_made ws c.args.w (get_or ws c.args.w d) c.begin.new.self p c.args.found ends c.args.skipped.now.items c.push.new.self.items (at_get ws c.args.w d c.if-w-workers.false) c.in-Some.ensures enough c.in_ok-push.ensures.items
