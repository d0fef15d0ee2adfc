use Rattle.std.proofs.Common.{subst, get_or, Bool}
use Rattle.std.specs.Bool.{MatchBool}
use Rattle.ap_paths.specs.Trees.{AreKids}
use Rattle.ap_play.proofs.Stepping.{split_made, not_split, nothing_begun, began_there, at_get, hand_beyond}
use Rattle.ap_play.proofs.steps.split.Goals as goal

pub returns-then-w-workers : goal.returns-then-w-workers
returns-then-w-workers g c = λ past u s. hand_beyond c.args.workers.now c.args.w _ c.if-w-workers.true s.2

pub returns-in_default : goal.returns-in_default
returns-in_default g c =
    let ws = c.args.workers.now in
    let d = c.index-workers-w.result in
    λ past u s. nothing_begun ws c.args.w (get_or ws c.args.w d) c.begin.new.self s.1 s.0 (at_get ws c.args.w d c.if-w-workers.false) c.in_default.ensures s.2

pub are_kids-requires-after_bounds : goal.are_kids-requires-after_bounds
are_kids-requires-after_bounds g c _ _ =
    let ws = c.args.workers.now in
    let d = c.index-workers-w.result in
    c.requires c.args.w c.in-Some.path c.begin.new.self.hand.items (began_there ws c.args.w (get_or ws c.args.w d) c.begin.new.self c.in-Some.path (at_get ws c.args.w d c.if-w-workers.false) c.in-Some.ensures)

pub returns-then-not-permitted : goal.returns-then-not-permitted
returns-then-not-permitted g c =
    let ws = c.args.workers.now in
    let d = c.index-workers-w.result in
    let t = c.args.tree.now in
    let p = c.in-Some.path in
    let ks = c.args.kids.now in
    let none = subst (λ (b : Bool). MatchBool b (AreKids (g.T.Tree.choices t) (g.T.Tree.at t) p ks) (AreKids (g.T.Tree.choices t) (g.T.Tree.at t) p ks → ⊥)) c.if-not-permitted.true c.in_ok-permitted.ensures in
    λ past. not_split (g.T.Tree.choices t) (g.T.Tree.at t) ws c.args.w (get_or ws c.args.w d) c.begin.new.self p ks past (at_get ws c.args.w d c.if-w-workers.false) c.in-Some.ensures none

pub returns : goal.returns
returns g c =
    let ws = c.args.workers.now in
    let d = c.index-workers-w.result in
    let t = c.args.tree.now in
    let p = c.in-Some.path in
    let ks = c.args.kids.now in
    let kids = subst (λ (b : Bool). MatchBool b (AreKids (g.T.Tree.choices t) (g.T.Tree.at t) p ks) (AreKids (g.T.Tree.choices t) (g.T.Tree.at t) p ks → ⊥)) c.if-not-permitted.false c.in_ok-permitted.ensures in
    λ past. split_made (g.T.Tree.choices t) (g.T.Tree.at t) ws c.args.w (get_or ws c.args.w d) c.begin.new.self c.take_kids.new.self p ks past (at_get ws c.args.w d c.if-w-workers.false) c.in-Some.ensures kids
    c.in_ok-take_kids.ensures.hand c.in_ok-take_kids.ensures.deque
