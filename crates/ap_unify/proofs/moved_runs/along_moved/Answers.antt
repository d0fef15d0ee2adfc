use Rattle.std.proofs.Common.{inr, subst, sym, ◌∙◌}
use Rattle.ap_defs.specs.Unification.{next}
use Rattle.ap_store.specs.Views.{bindings_of, present, versions}
use Rattle.ap_unify.proofs.ReachLemmas.{leads_less, then_reaches}
use Rattle.ap_rules.proofs.WorkLemmas.{go_on_on, goes_on_on}
use Rattle.ap_unify.proofs.moved_runs.along_moved.Goals as goal
use Rattle.ap_unify.specs.Moved.{moved_equation}
use Rattle.ap_unify.specs.Parts.{AreBelowBoth, AreWayMarksTrue, IsWaitingBelow, IsWayBelow, LeadsTo, progress_to, stage_of}
use Rattle.ap_unify.specs.Solved.{AreSolvedAfter}
use Rattle.ap_rules.specs.Work.{progress_if, work_stage}
use Rattle.ap_unify.specs.declared.fronts.Way.TheVariants as ways

pub returns-in-End-clause-stage : goal.returns-in-End-clause-stage
returns-in-End-clause-stage c =
    let s = bindings_of c.way_unless_solved.new.store in
    let w = c.way_unless_solved.new.work in
    let f = c.way_unless_solved.new.front in
    let m = c.way_unless_solved.new.sides in
    let before = stage_of (moved_equation c.going.sides) (bindings_of c.going.store) c.going.front.ahead.next c.going.front.waiting c.going.work in
    let p = progress_if c.in-End.goes_on (work_stage s w) in
    c.going.invariant.leads p (subst (λ x. LeadsTo before (progress_to (moved_equation m) x s f w)) c.in-End.is c.in_ok-goes_on.ensures.stage)

pub going-smaller : goal.going-smaller
going-smaller c =
    let s = bindings_of c.way_unless_solved.new.store in
    let w = c.way_unless_solved.new.work in
    let f = c.way_unless_solved.new.front in
    let m = c.way_unless_solved.new.sides in
    let before = stage_of (moved_equation c.going.sides) (bindings_of c.going.store) c.going.front.ahead.next c.going.front.waiting c.going.work in
    let after = stage_of (moved_equation m) s f.ahead.next f.waiting w in
    leads_less before after (subst (λ x. LeadsTo before (progress_to (moved_equation m) x s f w)) c.in-On.is c.in_ok-goes_on.ensures.stage)

pub going-preserved : goal.going-preserved
going-preserved c =
    let a = present c.args.store.now in
    let b = present c.going.store in
    let d = present c.way_unless_solved.new.store in
    let s = bindings_of c.way_unless_solved.new.store in
    let w = c.way_unless_solved.new.work in
    let f = c.way_unless_solved.new.front in
    let m = c.way_unless_solved.new.sides in
    let before = stage_of (moved_equation c.going.sides) (bindings_of c.going.store) c.going.front.ahead.next c.going.front.waiting c.going.work in
    let after = stage_of (moved_equation m) s f.ahead.next f.waiting w in
    let e : LeadsTo before (next after) = subst (λ x. LeadsTo before (progress_to (moved_equation m) x s f w)) c.in-On.is c.in_ok-goes_on.ensures.stage in
    let n = c.in_ok-goes_on.ensures.goes_on.next in
    let marks : AreWayMarksTrue s ways.On f = subst (λ x. AreWayMarksTrue s x f) c.in-On.is c.in_ok-goes_on.ensures.marks in
    let below : IsWayBelow (moved_equation m) b.next ways.On f = subst (λ x. IsWayBelow (moved_equation m) b.next x f) c.in-On.is c.in_ok-goes_on.ensures.below in
    record {
      leads = λ p h. c.going.invariant.leads p (then_reaches before after p e (inr h));
      solved = subst (λ x. AreSolvedAfter (progress_to (moved_equation m) x s f w) c.way_unless_solved.new.solved) c.in-On.is c.in_ok-goes_on.ensures.solved;
      pair_below = subst (λ k. AreBelowBoth (moved_equation m) k f.ahead.next) (sym n) below.0;
      waiting_below = subst (λ k. IsWaitingBelow (moved_equation m) k f.waiting) (sym n) below.1;
      pair_marks = marks.0;
      waiting_marks = marks.1;
      goes_on = go_on_on a b d c.args.work.now c.going.work w c.going.invariant.goes_on c.in_ok-goes_on.ensures.goes_on;
      past = goes_on_on (versions c.args.store.now) (versions c.going.store) (versions c.way_unless_solved.new.store) c.going.invariant.past c.way_unless_solved.ensures.past;
      kinds = c.way_unless_solved.ensures.kinds ∙ c.going.invariant.kinds;
    }

pub returns-in-End-clause-solved : goal.returns-in-End-clause-solved
returns-in-End-clause-solved c =
    let s = bindings_of c.way_unless_solved.new.store in
    let w = c.way_unless_solved.new.work in
    let f = c.way_unless_solved.new.front in
    let m = c.way_unless_solved.new.sides in
    subst (λ x. AreSolvedAfter (progress_to (moved_equation m) x s f w) c.way_unless_solved.new.solved) c.in-End.is c.in_ok-goes_on.ensures.solved
