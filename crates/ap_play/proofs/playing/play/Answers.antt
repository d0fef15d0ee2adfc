use Rattle.std.proofs.Common.{length, ◌≡◌, ◌∙◌, ◌<◌, ◌+◌, sym, ap, subst, take, drop, Bool, List, Some, [], ◌∷◌, ◌++◌, arith}
use Rattle.std.specs.Prelude.{slice_get}
use Rattle.std.proofs.lemmas.List.{with_items_is, take_more}
use Rattle.ap_tools.specs.declared.events.Event.{Event}
use Rattle.ap_play.specs.declared.workers.Worker.{Worker}
use Rattle.ap_tools.specs.States.{start_state}
use Rattle.ap_tools.specs.Steps.{IsStep, AreSteps, IsNotPermitted}
use Rattle.ap_play.specs.Stages.{hands_of, state_of, past_of, Answered}
use Rattle.ap_tools.proofs.Places.{split_at}
use Rattle.ap_play.proofs.Stepping.{steps_more}
use Rattle.ap_play.proofs.Wholes.{first_in_tree}
use Rattle.ap_play.proofs.playing.play.Goals as goal

pub take-requires-after_bounds : goal.take-requires-after_bounds
take-requires-after_bounds g c _ _ = λ w p rest there.
    let t = c.args.tree.now in
    let laws = g.met.T.Tree g.world.𝓛 g.world.𝓜 g.world.𝓡 ((λ s x. x), (λ x. x), (λ x. x), λ x. x) in
    let some : 0 < c.args.workers = (let z = c.requires.some in omega arith) in
    first_in_tree (g.T.Tree.choices t) (g.T.Tree.at t) c.args.workers (take c.loop-event.event-index c.args.events.now) (state_of c.loop-event.team.items (past_of c.loop-event.endings c.loop-event.skipped.items)) w p rest some (laws.branches t) c.loop-event.invariant
    (subst (λ (ws : List Worker). slice_get (hands_of ws) w ≡ Some (p ∷ rest)) c.as_mut_slice.ensures.value there)

pub returns-then-not-permitted : goal.returns-then-not-permitted
returns-then-not-permitted g c =
    let t = c.args.tree.now in
    let es = c.args.events.now in
    let i = c.loop-event.event-index in
    let e = c.event-item.result in
    let past = past_of c.loop-event.endings c.loop-event.skipped.items in
    let refused = subst (λ (b : Bool). Answered (IsStep (g.T.Tree.choices t) (g.T.Tree.at t) (state_of c.as_mut_slice.result.now past) e) b (state_of c.take.new.workers (past_of c.take.new.endings c.take.new.skipped.items))) c.if-not-permitted.true c.in_ok-permitted.ensures in (
      take i es,
      e,
      drop (i + 1) es,
      state_of c.loop-event.team.items past,
      split_at es i e c.loop-event-test.true ∙ ap (λ x. take i es ++ x ∷ drop (i + 1) es) (sym c.event-item.is),
      c.loop-event.invariant,
      subst (λ (ws : List Worker). IsNotPermitted (g.T.Tree.choices t) (g.T.Tree.at t) (state_of ws past) e) c.as_mut_slice.ensures.value refused,
    )

pub loop-event-preserved : goal.loop-event-preserved
loop-event-preserved g c =
    let t = c.args.tree.now in
    let es = c.args.events.now in
    let i = c.loop-event.event-index in
    let e = c.event-item.result in
    let past = past_of c.loop-event.endings c.loop-event.skipped.items in
    let next = state_of c.take.new.workers (past_of c.take.new.endings c.take.new.skipped.items) in
    let taken = subst (λ (b : Bool). Answered (IsStep (g.T.Tree.choices t) (g.T.Tree.at t) (state_of c.as_mut_slice.result.now past) e) b next) c.if-not-permitted.false c.in_ok-permitted.ensures in
    let step = subst (λ (ws : List Worker). IsStep (g.T.Tree.choices t) (g.T.Tree.at t) (state_of ws past) e next) c.as_mut_slice.ensures.value taken in
    let steps = subst (λ (l : List Event). AreSteps (g.T.Tree.choices t) (g.T.Tree.at t) (start_state c.args.workers) l next) (ap (λ x. take i es ++ x ∷ []) c.event-item.is ∙ sym (take_more es i e c.loop-event-test.true))
    (steps_more (g.T.Tree.choices t) (g.T.Tree.at t) (start_state c.args.workers) (take i es) (state_of c.loop-event.team.items past) e next c.loop-event.invariant step) in
    let long : length c.take.new.workers ≡ c.loop-event.team.len = (let a = c.take.auto.workers in let b = c.as_mut_slice.ensures.len in omega arith) in
    let kept = with_items_is c.loop-event.team c.take.new.workers long in
    subst (λ (ws : List Worker). AreSteps (g.T.Tree.choices t) (g.T.Tree.at t) (start_state c.args.workers) (take (i + 1) es) (state_of ws (past_of c.take.new.endings c.take.new.skipped.items))) (sym kept) steps
