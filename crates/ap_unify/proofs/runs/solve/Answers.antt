use Rattle.std.proofs.Common.{subst, sym}
use Rattle.ap_defs.specs.Unification.{next}
use Rattle.ap_fresh.proofs.StepLemmas.{on_ok}
use Rattle.ap_store.specs.Views.{bindings_of, present}
use Rattle.ap_unify.proofs.ReachLemmas.{then_reaches}
use Rattle.ap_rules.proofs.WorkLemmas.{go_on_on, if_ok}
use Rattle.ap_unify.proofs.runs.solve.Goals as goal
use Rattle.ap_unify.specs.Parts.{LeadsTo, parts_equation, stage_with}
use Rattle.ap_rules.specs.Work.{ArePairsBelow, progress_if, work_stage}

pub returns-then-not-branch-clause-stage : goal.returns-then-not-branch-clause-stage
returns-then-not-branch-clause-stage c =
    let first = stage_with parts_equation (bindings_of c.args.store.now) c.args.pair c.args.work.now in
    let s = work_stage (bindings_of c.along.new.store) c.along.new.work in
    subst (λ v. LeadsTo first (progress_if v s)) c.if-not-branch.true c.in_ok-along.ensures.stage

pub run-requires : goal.run-requires
run-requires c =
    let g = c.in_ok-along.ensures.goes_on in
    subst (λ n. ArePairsBelow n c.along.new.work.equations.items) (sym g.next) (g.pairs c.requires.pairs)

pub returns-clause-stage : goal.returns-clause-stage
returns-clause-stage c =
    let first = stage_with parts_equation (bindings_of c.args.store.now) c.args.pair c.args.work.now in
    let s = work_stage (bindings_of c.along.new.store) c.along.new.work in
    let last = work_stage (bindings_of c.run.new.store) c.run.new.work in
    let e : LeadsTo first (next s) = subst (λ v. LeadsTo first (progress_if v s)) c.if-not-branch.false c.in_ok-along.ensures.stage in
    if_ok c.run.result (λ solved h. then_reaches first s (progress_if solved last) e h) c.run.ensures.reached

pub returns-clause-goes_on : goal.returns-clause-goes_on
returns-clause-goes_on c =
    on_ok c.run.result
    (go_on_on (present c.args.store.now) (present c.along.new.store) (present c.run.new.store) c.args.work.now c.along.new.work c.run.new.work c.in_ok-along.ensures.goes_on)
    c.run.ensures.goes_on
