use Rattle.std.proofs.Common.{◌∷◌, ap, ap₂, subst, sym, ◌∙◌}
use Rattle.ap_defs.specs.Renaming.{IsBelow}
use Rattle.ap_defs.specs.Substitution.{under, ◌≐◌}
use Rattle.ap_rules.proofs.WorkLemmas.{if_ok}
use Rattle.ap_rules.specs.Runs.{stage_under}
use Rattle.ap_rules.specs.Work.{equations_left, pair_equation, problems_met, progress_if, work_stage}
use Rattle.ap_rules.specs.declared.pairs.ClosurePair.{ClosurePair}
use Rattle.ap_store.specs.Views.{bindings_of, present}
use Rattle.ap_unify.proofs.ReachLemmas.{leads_under}
use Rattle.ap_unify.proofs.ways.by_closures.Goals as goal
use Rattle.ap_unify.specs.Parts.{parts_equation}

pub along_closures-requires-clause-below : goal.along_closures-requires-clause-below
along_closures-requires-clause-below c =
    let n = (present c.args.store.now).next in (
      c.in_ok-left.ensures.below (subst (IsBelow n) (sym c.closure.ensures) c.requires.below.0),
      c.in_ok-right.ensures.below (subst (IsBelow n) (sym c.closure-2.ensures) c.requires.below.1),
    )

pub returns-clause-stage : goal.returns-clause-stage
returns-clause-stage c =
    let s = bindings_of c.args.store.now in
    let w = c.args.work.now in
    let e : ClosurePair = record { left = c.in_ok-left.left; right = c.in_ok-right.right } in
    let l = c.in_ok-left.ensures.term ∙ ap (under s) c.closure.ensures in
    let r = c.in_ok-right.ensures.term ∙ ap (under s) c.closure-2.ensures in
    if_ok c.along_closures.result
    (λ goes_on h. leads_under s (pair_equation e) (parts_equation c.args.pair) (equations_left w) (problems_met w)
    (progress_if goes_on (work_stage (bindings_of c.along_closures.new.store) c.along_closures.new.work)) (ap₂ ◌≐◌ l r) h)
    c.along_closures.ensures.stage

pub along_closures-requires-clause-solved : goal.along_closures-requires-clause-solved
along_closures-requires-clause-solved c =
    let w = c.args.work.now in
    let e : ClosurePair = record { left = c.in_ok-left.left; right = c.in_ok-right.right } in
    c.without_notes-solved.ensures.solved (stage_under (bindings_of c.args.store.now) (pair_equation e ∷ equations_left w) (problems_met w))
