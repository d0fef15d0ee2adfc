use Rattle.ap_unify.specs.Parts.{AreBelowBoth, AreTurnMarksTrue, IsTurnBelow, IsWaitingBelow, IsWayBelow, LeadsTo, progress_to, stage_of}
use Rattle.std.proofs.Common.{subst, sym}
use Rattle.ap_store.specs.Views.{bindings_of, present}
use Rattle.ap_unify.proofs.WayLemmas.{both_way, clash_way, done_way, on_way, other_way, waiting_stay}
use Rattle.ap_fresh.proofs.StepLemmas.{on_ok}
use Rattle.ap_rules.proofs.WorkLemmas.{go_on_on, go_same, if_ok}
use Rattle.ap_unify.proofs.moved_runs.next_moved.Goals as goal
use Rattle.ap_unify.specs.Moved.{moved_equation}

pub returns-then-are_abstractions-clause-stage : goal.returns-then-are_abstractions-clause-stage
returns-then-are_abstractions-clause-stage c =
    let front = c.args.front.now in
    let o = c.other_moved in
    if_ok o.result
    (λ way. subst (λ waiting. LeadsTo (stage_of (moved_equation c.args.sides.now) (bindings_of c.args.store.now) front.ahead.next waiting c.args.work.now)
    (progress_to (moved_equation o.new.sides) way (bindings_of o.new.store) o.new.front o.new.work)) (sym c.in-None.is))
    o.ensures.stage

pub returns-in-Clash-clause-stage : goal.returns-in-Clash-clause-stage
returns-in-Clash-clause-stage c =
    let r = bindings_of c.step_moved.new.store in
    let v = c.step_moved.new.work in
    clash_way (moved_equation c.args.sides.now) (bindings_of c.args.store.now) r c.args.front.now.ahead.next c.args.front.now.waiting c.args.work.now v c.step_moved.ensures.equations c.step_moved.ensures.problems
    c.step_moved.new.ahead c.in_ok-step_moved.field-0 c.in_ok-step_moved.ensures.turn c.in-Clash.is

pub returns-in-Done-clause-stage : goal.returns-in-Done-clause-stage
returns-in-Done-clause-stage c =
    let r = bindings_of c.step_moved.new.store in
    let v = c.step_moved.new.work in
    subst (LeadsTo (stage_of (moved_equation c.args.sides.now) (bindings_of c.args.store.now) c.args.front.now.ahead.next c.args.front.now.waiting c.args.work.now)) (sym (c.after_done.ensures.way (moved_equation c.args.sides.now) r v))
    (done_way (moved_equation c.args.sides.now) (bindings_of c.args.store.now) r c.args.front.now.ahead.next c.args.front.now.waiting c.args.work.now v c.step_moved.ensures.equations c.step_moved.ensures.problems
    c.step_moved.new.ahead c.in_ok-step_moved.field-0 c.in_ok-step_moved.ensures.turn c.in-Done.is)

pub returns-in-Done-clause-below : goal.returns-in-Done-clause-below
returns-in-Done-clause-below c = c.after_done.ensures.below (moved_equation c.args.sides.now) (present c.args.store.now).next c.requires.waiting

pub returns-in-On-clause-stage : goal.returns-in-On-clause-stage
returns-in-On-clause-stage c =
    let r = bindings_of c.step_moved.new.store in
    let v = c.step_moved.new.work in
    on_way (moved_equation c.args.sides.now) (bindings_of c.args.store.now) r c.args.front.now.ahead.next c.args.front.now.waiting c.args.work.now v c.step_moved.ensures.equations c.step_moved.ensures.problems
    c.step_moved.new.ahead c.in_ok-step_moved.field-0 c.in_ok-step_moved.ensures.turn c.in-On.is

pub returns-in-On-clause-below : goal.returns-in-On-clause-below
returns-in-On-clause-below c =
    let n = (present c.args.store.now).next in
    (subst (λ t. IsTurnBelow (moved_equation c.args.sides.now) n t c.step_moved.new.ahead) c.in-On.is c.in_ok-step_moved.ensures.below, c.requires.waiting)

pub returns-in_ok-put_moved-in-Both-clause-below : goal.returns-in_ok-put_moved-in-Both-clause-below
returns-in_ok-put_moved-in-Both-clause-below c =
    let n = (present c.args.store.now).next in
    subst (λ t. IsTurnBelow (moved_equation c.args.sides.now) n t c.step_moved.new.ahead) c.in-Both.is c.in_ok-step_moved.ensures.below

pub returns-in_ok-put_moved-in-Both-clause-stage : goal.returns-in_ok-put_moved-in-Both-clause-stage
returns-in_ok-put_moved-in-Both-clause-stage c =
    let r = bindings_of c.step_moved.new.store in
    let v = c.step_moved.new.work in
    both_way (moved_equation c.args.sides.now) (bindings_of c.args.store.now) r c.args.front.now.ahead.next c.args.front.now.waiting c.args.work.now v c.step_moved.ensures.equations c.step_moved.ensures.problems
    c.step_moved.new.ahead c.in_ok-step_moved.field-0 c.in_ok-step_moved.ensures.turn
    c.put_moved.new.work c.in_ok-put_moved-in-Both.ensures.equations c.put_moved.ensures.problems c.in-Both.is

pub returns-in_ok-put_moved-in-Both-clause-goes_on : goal.returns-in_ok-put_moved-in-Both-clause-goes_on
returns-in_ok-put_moved-in-Both-clause-goes_on c =
    let a = present c.args.store.now in
    let b = present c.step_moved.new.store in
    let v = c.step_moved.new.work in
    let u = c.put_moved.new.work in
    let g = c.in_ok-step_moved.ensures.goes_on in
    go_on_on a b b c.args.work.now v u g
    (go_same b v u (c.in_ok-put_moved-in-Both.ensures.below b.next (subst (λ n. IsWaitingBelow (moved_equation c.args.sides.now) n c.args.front.now.waiting) (sym g.next) c.requires.waiting)) c.put_moved.ensures.taken)

pub other_moved-requires-in-Other-clause-pair : goal.other_moved-requires-in-Other-clause-pair
other_moved-requires-in-Other-clause-pair c =
    let f = c.step_moved.new.ahead in
    let k : AreBelowBoth (moved_equation c.args.sides.now) (present c.args.store.now).next f.next = subst (λ t. IsTurnBelow (moved_equation c.args.sides.now) (present c.args.store.now).next t f) c.in-Other.is c.in_ok-step_moved.ensures.below in
    subst (λ n. AreBelowBoth (moved_equation c.args.sides.now) n f.next) (sym c.in_ok-step_moved.ensures.goes_on.next) k

pub returns-in_ok-put_moved-in-Other-clause-stage : goal.returns-in_ok-put_moved-in-Other-clause-stage
returns-in_ok-put_moved-in-Other-clause-stage c =
    let r = bindings_of c.step_moved.new.store in
    let v = c.step_moved.new.work in
    if_ok c.other_moved-in-Other.result
    (λ way. other_way (moved_equation c.args.sides.now) (bindings_of c.args.store.now) r c.args.front.now.ahead.next c.args.front.now.waiting c.args.work.now v c.step_moved.ensures.equations c.step_moved.ensures.problems
    c.step_moved.new.ahead c.in_ok-step_moved.field-0 c.in_ok-step_moved.ensures.turn
    c.put_moved-in-Other.new.work c.in_ok-put_moved-in-Other.ensures.equations c.put_moved-in-Other.ensures.problems c.in-Other.is
    (progress_to (moved_equation c.other_moved-in-Other.new.sides) way (bindings_of c.other_moved-in-Other.new.store) c.other_moved-in-Other.new.front c.other_moved-in-Other.new.work))
    c.other_moved-in-Other.ensures.stage

pub returns-in_ok-put_moved-in-Other-clause-goes_on : goal.returns-in_ok-put_moved-in-Other-clause-goes_on
returns-in_ok-put_moved-in-Other-clause-goes_on c =
    let a = present c.args.store.now in
    let b = present c.step_moved.new.store in
    let v = c.step_moved.new.work in
    let u = c.put_moved-in-Other.new.work in
    let g = c.in_ok-step_moved.ensures.goes_on in
    on_ok c.other_moved-in-Other.result
    (go_on_on a b (present c.other_moved-in-Other.new.store) c.args.work.now u c.other_moved-in-Other.new.work
    (go_on_on a b b c.args.work.now v u g
    (go_same b v u (c.in_ok-put_moved-in-Other.ensures.below b.next (subst (λ n. IsWaitingBelow (moved_equation c.args.sides.now) n c.args.front.now.waiting) (sym g.next) c.requires.waiting)) c.put_moved-in-Other.ensures.taken)))
    c.other_moved-in-Other.ensures.goes_on

pub returns-in_ok-put_moved-in-Other-clause-below : goal.returns-in_ok-put_moved-in-Other-clause-below
returns-in_ok-put_moved-in-Other-clause-below c =
    if_ok c.other_moved-in-Other.result (λ way. subst (λ n. IsWayBelow (moved_equation c.other_moved-in-Other.new.sides) n way c.other_moved-in-Other.new.front) c.in_ok-step_moved.ensures.goes_on.next) c.other_moved-in-Other.ensures.below

pub returns-in-Done-clause-marks : goal.returns-in-Done-clause-marks
returns-in-Done-clause-marks c =
    let r = bindings_of c.step_moved.new.store in
    c.after_done.ensures.marks r (waiting_stay (bindings_of c.args.store.now) r c.in_ok-step_moved.ensures.goes_on.no_vars c.args.front.now.waiting c.requires.waiting_marks)

pub returns-in-On-clause-marks : goal.returns-in-On-clause-marks
returns-in-On-clause-marks c =
    let r = bindings_of c.step_moved.new.store in (
      subst (λ t. AreTurnMarksTrue r t c.step_moved.new.ahead) c.in-On.is c.in_ok-step_moved.ensures.marks,
      waiting_stay (bindings_of c.args.store.now) r c.in_ok-step_moved.ensures.goes_on.no_vars c.args.front.now.waiting c.requires.waiting_marks,
    )

pub returns-in_ok-put_moved-in-Both-clause-marks : goal.returns-in_ok-put_moved-in-Both-clause-marks
returns-in_ok-put_moved-in-Both-clause-marks c =
    subst (λ t. AreTurnMarksTrue (bindings_of c.step_moved.new.store) t c.step_moved.new.ahead) c.in-Both.is c.in_ok-step_moved.ensures.marks

pub other_moved-requires-in-Other-clause-marks : goal.other_moved-requires-in-Other-clause-marks
other_moved-requires-in-Other-clause-marks c =
    subst (λ t. AreTurnMarksTrue (bindings_of c.step_moved.new.store) t c.step_moved.new.ahead) c.in-Other.is c.in_ok-step_moved.ensures.marks
