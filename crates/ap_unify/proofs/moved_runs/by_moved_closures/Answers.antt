use Rattle.std.proofs.Common.{◌≡◌, ◌∷◌, subst}
use Rattle.ap_defs.specs.Substitution.{Equation}
use Rattle.ap_defs.specs.Unification.{step}
use Rattle.ap_rules.proofs.WorkLemmas.{if_ok}
use Rattle.ap_rules.specs.Runs.{stage_under}
use Rattle.ap_rules.specs.Work.{equations_left, problems_met, progress_if, work_stage}
use Rattle.ap_store.specs.Views.{bindings_of, present}
use Rattle.ap_unify.proofs.moved_runs.by_moved_closures.Goals as goal

pub by_rule-requires : goal.by_rule-requires
by_rule-requires c = c.in_ok-e.ensures.below (present c.args.store.now).next c.requires.below

pub returns-clause-stage : goal.returns-clause-stage
returns-clause-stage c =
    let s = bindings_of c.args.store.now in
    let w = c.args.work.now in
    let last = work_stage (bindings_of c.by_rule.new.store) c.by_rule.new.work in
    if_ok c.by_rule.result
    (λ goes_on h. subst (λ (e : Equation). progress_if goes_on last ≡ step (stage_under s (e ∷ equations_left w) (problems_met w))) c.in_ok-e.ensures.same h)
    c.by_rule.ensures.stage
