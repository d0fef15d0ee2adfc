use Rattle.std.proofs.Common.{◌∷◌, ap₂, subst, sym}
use Rattle.ap_defs.specs.Substitution.{Equation, ◌≐◌}
use Rattle.ap_rules.proofs.WorkLemmas.{if_ok}
use Rattle.ap_rules.specs.Runs.{stage_under}
use Rattle.ap_rules.specs.Work.{equations_left, problems_met, progress_if, work_stage}
use Rattle.ap_store.specs.Views.{bindings_of}
use Rattle.ap_unify.proofs.PartLemmas.{unmarked}
use Rattle.ap_unify.proofs.moved_runs.along_closures.Goals as goal
use Rattle.ap_unify.specs.Parts.{LeadsTo}
use Rattle.ap_unify.specs.Solved.{AreSolved}

pub along_moved-requires-clause-marks : goal.along_moved-requires-clause-marks
along_moved-requires-clause-marks c =
    let s = bindings_of c.args.store.now in
    (unmarked s c.apart-left_side.result.1 c.apart-left_side.ensures.mark, unmarked s c.apart-right_side.result.1 c.apart-right_side.ensures.mark)

pub returns-clause-stage : goal.returns-clause-stage
returns-clause-stage c =
    let s = bindings_of c.args.store.now in
    let w = c.args.work.now in
    let last = work_stage (bindings_of c.along_moved.new.store) c.along_moved.new.work in
    if_ok c.along_moved.result
    (λ goes_on h. subst (λ (e : Equation). LeadsTo (stage_under s (e ∷ equations_left w) (problems_met w)) (progress_if goes_on last)) (ap₂ ◌≐◌ c.apart-left_side.ensures.term c.apart-right_side.ensures.term) h)
    c.along_moved.ensures.stage

pub along_moved-requires-clause-solved : goal.along_moved-requires-clause-solved
along_moved-requires-clause-solved c =
    let s = bindings_of c.args.store.now in
    let w = c.args.work.now in
    subst (λ (e : Equation). AreSolved (stage_under s (e ∷ equations_left w) (problems_met w)) c.args.solved.now)
    (sym (ap₂ ◌≐◌ c.apart-left_side.ensures.term c.apart-right_side.ensures.term)) c.requires.solved
