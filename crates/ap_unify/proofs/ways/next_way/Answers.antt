use Rattle.std.proofs.Common.{subst, sym}
use Rattle.ap_store.specs.Views.{bindings_of, present}
use Rattle.ap_unify.proofs.WayLemmas.{both_way, clash_way, done_way, on_way, other_way, waiting_stay}
use Rattle.ap_rules.proofs.WorkLemmas.{go_on_on, go_same}
use Rattle.ap_unify.proofs.ways.next_way.Goals as goal
use Rattle.ap_rules.specs.Work.{progress_if, work_stage}
use Rattle.ap_unify.specs.Parts.{AreBelowBoth, AreTurnMarksTrue, IsTurnBelow, IsWaitingBelow, LeadsTo, parts_equation, stage_of}

pub returns-in-Clash-clause-stage : goal.returns-in-Clash-clause-stage
returns-in-Clash-clause-stage c =
    let r = bindings_of c.step_parts.new.store in
    let v = c.step_parts.new.work in
    clash_way parts_equation (bindings_of c.args.store.now) r c.args.front.now.ahead.next c.args.front.now.waiting c.args.work.now v c.step_parts.ensures.equations c.step_parts.ensures.problems
    c.step_parts.new.ahead c.in_ok-step_parts.field-0 c.in_ok-step_parts.ensures.turn c.in-Clash.is

pub returns-in-Done-clause-stage : goal.returns-in-Done-clause-stage
returns-in-Done-clause-stage c =
    let r = bindings_of c.step_parts.new.store in
    let v = c.step_parts.new.work in
    subst (LeadsTo (stage_of parts_equation (bindings_of c.args.store.now) c.args.front.now.ahead.next c.args.front.now.waiting c.args.work.now)) (sym (c.after_done.ensures.way parts_equation r v))
    (done_way parts_equation (bindings_of c.args.store.now) r c.args.front.now.ahead.next c.args.front.now.waiting c.args.work.now v c.step_parts.ensures.equations c.step_parts.ensures.problems
    c.step_parts.new.ahead c.in_ok-step_parts.field-0 c.in_ok-step_parts.ensures.turn c.in-Done.is)

pub returns-in-Done-clause-below : goal.returns-in-Done-clause-below
returns-in-Done-clause-below c = c.after_done.ensures.below parts_equation (present c.args.store.now).next c.requires.waiting

pub returns-in-Done-clause-marks : goal.returns-in-Done-clause-marks
returns-in-Done-clause-marks c =
    let r = bindings_of c.step_parts.new.store in
    c.after_done.ensures.marks r (waiting_stay (bindings_of c.args.store.now) r c.in_ok-step_parts.ensures.goes_on.no_vars c.args.front.now.waiting c.requires.waiting_marks)

pub returns-in-On-clause-stage : goal.returns-in-On-clause-stage
returns-in-On-clause-stage c =
    let r = bindings_of c.step_parts.new.store in
    let v = c.step_parts.new.work in
    on_way parts_equation (bindings_of c.args.store.now) r c.args.front.now.ahead.next c.args.front.now.waiting c.args.work.now v c.step_parts.ensures.equations c.step_parts.ensures.problems
    c.step_parts.new.ahead c.in_ok-step_parts.field-0 c.in_ok-step_parts.ensures.turn c.in-On.is

pub returns-in-On-clause-below : goal.returns-in-On-clause-below
returns-in-On-clause-below c =
    let n = (present c.args.store.now).next in
    (subst (λ t. IsTurnBelow parts_equation n t c.step_parts.new.ahead) c.in-On.is c.in_ok-step_parts.ensures.below, c.requires.waiting)

pub returns-in-On-clause-marks : goal.returns-in-On-clause-marks
returns-in-On-clause-marks c =
    let r = bindings_of c.step_parts.new.store in (
      subst (λ t. AreTurnMarksTrue r t c.step_parts.new.ahead) c.in-On.is c.in_ok-step_parts.ensures.marks,
      waiting_stay (bindings_of c.args.store.now) r c.in_ok-step_parts.ensures.goes_on.no_vars c.args.front.now.waiting c.requires.waiting_marks,
    )

pub returns-in_ok-put_waiting-in-Both-clause-marks : goal.returns-in_ok-put_waiting-in-Both-clause-marks
returns-in_ok-put_waiting-in-Both-clause-marks c =
    let r = bindings_of c.step_parts.new.store in
    subst (λ t. AreTurnMarksTrue r t c.step_parts.new.ahead) c.in-Both.is c.in_ok-step_parts.ensures.marks

pub returns-in_ok-put_waiting-in-Both-clause-below : goal.returns-in_ok-put_waiting-in-Both-clause-below
returns-in_ok-put_waiting-in-Both-clause-below c =
    let n = (present c.args.store.now).next in
    subst (λ t. IsTurnBelow parts_equation n t c.step_parts.new.ahead) c.in-Both.is c.in_ok-step_parts.ensures.below

pub returns-in_ok-put_waiting-in-Both-clause-stage : goal.returns-in_ok-put_waiting-in-Both-clause-stage
returns-in_ok-put_waiting-in-Both-clause-stage c =
    let r = bindings_of c.step_parts.new.store in
    let v = c.step_parts.new.work in
    both_way parts_equation (bindings_of c.args.store.now) r c.args.front.now.ahead.next c.args.front.now.waiting c.args.work.now v c.step_parts.ensures.equations c.step_parts.ensures.problems
    c.step_parts.new.ahead c.in_ok-step_parts.field-0 c.in_ok-step_parts.ensures.turn
    c.put_waiting.new.work c.in_ok-put_waiting-in-Both.ensures.equations c.put_waiting.ensures.problems c.in-Both.is

pub returns-in_ok-put_waiting-in-Both-clause-goes_on : goal.returns-in_ok-put_waiting-in-Both-clause-goes_on
returns-in_ok-put_waiting-in-Both-clause-goes_on c =
    let a = present c.args.store.now in
    let b = present c.step_parts.new.store in
    let v = c.step_parts.new.work in
    let u = c.put_waiting.new.work in
    let g = c.in_ok-step_parts.ensures.goes_on in
    go_on_on a b b c.args.work.now v u g
    (go_same b v u (c.in_ok-put_waiting-in-Both.ensures.below b.next (subst (λ n. IsWaitingBelow parts_equation n c.args.front.now.waiting) (sym g.next) c.requires.waiting)) c.put_waiting.ensures.taken)

pub by_closures-requires : goal.by_closures-requires
by_closures-requires c =
    let f = c.step_parts.new.ahead in
    let k : AreBelowBoth parts_equation (present c.args.store.now).next f.next = subst (λ t. IsTurnBelow parts_equation (present c.args.store.now).next t f) c.in-Other.is c.in_ok-step_parts.ensures.below in
    record { below = subst (λ n. AreBelowBoth parts_equation n f.next) (sym c.in_ok-step_parts.ensures.goes_on.next) k }

pub returns-in_ok-solved-in-Other-clause-stage : goal.returns-in_ok-solved-in-Other-clause-stage
returns-in_ok-solved-in-Other-clause-stage c =
    let r = bindings_of c.step_parts.new.store in
    let v = c.step_parts.new.work in
    other_way parts_equation (bindings_of c.args.store.now) r c.args.front.now.ahead.next c.args.front.now.waiting c.args.work.now v c.step_parts.ensures.equations c.step_parts.ensures.problems
    c.step_parts.new.ahead c.in_ok-step_parts.field-0 c.in_ok-step_parts.ensures.turn
    c.put_waiting-in-Other.new.work c.in_ok-put_waiting-in-Other.ensures.equations c.put_waiting-in-Other.ensures.problems c.in-Other.is
    (progress_if c.in_ok-solved-in-Other.solved (work_stage (bindings_of c.by_closures.new.store) c.by_closures.new.work)) c.in_ok-solved-in-Other.ensures.stage

pub returns-in_ok-solved-in-Other-clause-goes_on : goal.returns-in_ok-solved-in-Other-clause-goes_on
returns-in_ok-solved-in-Other-clause-goes_on c =
    let a = present c.args.store.now in
    let b = present c.step_parts.new.store in
    let v = c.step_parts.new.work in
    let u = c.put_waiting-in-Other.new.work in
    let g = c.in_ok-step_parts.ensures.goes_on in
    go_on_on a b (present c.by_closures.new.store) c.args.work.now u c.by_closures.new.work
    (go_on_on a b b c.args.work.now v u g
    (go_same b v u (c.in_ok-put_waiting-in-Other.ensures.below b.next (subst (λ n. IsWaitingBelow parts_equation n c.args.front.now.waiting) (sym g.next) c.requires.waiting)) c.put_waiting-in-Other.ensures.taken))
    c.in_ok-solved-in-Other.ensures.goes_on
