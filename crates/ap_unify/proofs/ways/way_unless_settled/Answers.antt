use Rattle.std.proofs.Common.{refl, subst, sym}
use Rattle.ap_fresh.proofs.StepLemmas.{on_ok}
use Rattle.ap_store.specs.Views.{bindings_of, present}
use Rattle.ap_rules.proofs.WorkLemmas.{go_same}
use Rattle.ap_unify.proofs.SameLemmas.{settled_on, settled_way}
use Rattle.ap_unify.proofs.ways.way_unless_settled.Goals as goal
use Rattle.ap_unify.specs.Parts.{LeadsTo, parts_equation, stage_of}

pub returns-then-same-clause-stage : goal.returns-then-same-clause-stage
returns-then-same-clause-stage c =
    let s = bindings_of c.args.store.now in
    let f = c.args.front.now in
    subst (LeadsTo (stage_of parts_equation s f.ahead.next f.waiting c.args.work.now)) (sym (c.after_done.ensures.way parts_equation s c.args.work.now))
    (settled_way s f.ahead.next f.waiting c.args.work.now (c.in_ok-same.ensures.same c.if-same.true))

pub returns-then-same-clause-below : goal.returns-then-same-clause-below
returns-then-same-clause-below c = c.after_done.ensures.below parts_equation (present c.args.store.now).next c.requires.waiting

pub returns-then-same-clause-marks : goal.returns-then-same-clause-marks
returns-then-same-clause-marks c = c.after_done.ensures.marks (bindings_of c.args.store.now) c.requires.waiting_marks

pub returns-then-same-clause-goes_on : goal.returns-then-same-clause-goes_on
returns-then-same-clause-goes_on c = go_same (present c.args.store.now) c.args.work.now c.args.work.now (λ h. h) refl

pub returns-clause-settled : goal.returns-clause-settled
returns-clause-settled c =
    let a = present c.args.store.now in
    let b = present c.next_way.new.store in
    on_ok c.next_way.result (settled_on a b c.args.work.now c.next_way.new.work c.is_settled.new.settled c.in_ok-same.ensures.settled) c.next_way.ensures.goes_on
