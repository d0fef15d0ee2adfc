use Rattle.std.proofs.Common.{◌∷◌, subst, sym}
use Rattle.std.specs.Prelude.{Option}
use Rattle.ap_defs.specs.Unification.{next}
use Rattle.ap_equations.specs.declared.plain.PlainPair.{PlainPair}
use Rattle.ap_rules.specs.Runs.{stage_under}
use Rattle.ap_rules.specs.Work.{equations_left, problems_met, progress_if}
use Rattle.ap_unify.proofs.binders.next_binders.Goals as goal
use Rattle.ap_unify.specs.Moved.{binders_equation, moved_equation}
use Rattle.ap_unify.specs.Parts.{AreWaitingMarksTrue, IsWaitingBelow, LeadsTo, stage_of, stage_with}

pub returns-then-not-branch-clause-stage : goal.returns-then-not-branch-clause-stage
returns-then-not-branch-clause-stage c = λ s.
    let w = c.args.work.now in
    let first = stage_under s (binders_equation c.args.sides.now c.args.a c.args.b c.args.bodies ∷ equations_left w) (problems_met w) in
    let after = stage_with (moved_equation c.by_binders.new.sides) s c.args.bodies c.by_binders.new.work in
    subst (λ b. LeadsTo first (progress_if b after)) c.if-not-branch.true (c.in_ok-by_binders.ensures.stage s)

pub returns-clause-stage : goal.returns-clause-stage
returns-clause-stage c = λ s.
    let w = c.args.work.now in
    let q = moved_equation c.by_binders.new.sides in
    let first = stage_under s (binders_equation c.args.sides.now c.args.a c.args.b c.args.bodies ∷ equations_left w) (problems_met w) in
    let after = stage_with q s c.args.bodies c.by_binders.new.work in
    let h : LeadsTo first (next after) = subst (λ b. LeadsTo first (progress_if b after)) c.if-not-branch.false (c.in_ok-by_binders.ensures.stage s) in
    subst (λ (o : Option PlainPair). LeadsTo first (next (stage_of q s c.args.bodies o c.by_binders.new.work))) (sym c.requires.none) h

pub returns-clause-below : goal.returns-clause-below
returns-clause-below c = λ n h.
    (c.in_ok-by_binders.ensures.below n h, subst (IsWaitingBelow (moved_equation c.by_binders.new.sides) n) (sym c.requires.none) tt)

pub returns-clause-marks : goal.returns-clause-marks
returns-clause-marks c = λ s h. (h, subst (AreWaitingMarksTrue s) (sym c.requires.none) tt)
