use Rattle.std.proofs.Common.{◌≡◌, ◌∷◌, false, ap₂, subst}
use Rattle.ap_defs.specs.Substitution.{Equation, ◌≐◌}
use Rattle.ap_perm.specs.Closures.{closure_term}
use Rattle.ap_fresh.proofs.StepLemmas.{on_ok}
use Rattle.ap_store.specs.Views.{bindings_of, present}
use Rattle.ap_rules.proofs.WorkLemmas.{if_ok}
use Rattle.ap_unify.proofs.PartLemmas.{unmarked}
use Rattle.ap_unify.proofs.SameLemmas.{settled_on}
use Rattle.ap_unify.proofs.SolvedLemmas.{solved_on}
use Rattle.ap_unify.proofs.runs.advance_by.Goals as goal
use Rattle.ap_unify.specs.Parts.{LeadsTo}
use Rattle.ap_equations.specs.Plain.{plain_term}
use Rattle.ap_rules.specs.Runs.{stage_under}
use Rattle.ap_rules.specs.Work.{equations_left, pair_equation, problems_met, progress_if, work_stage}

pub along_unless_settled-requires-clause-marks : goal.along_unless_settled-requires-clause-marks
along_unless_settled-requires-clause-marks c =
    let s = bindings_of c.args.store.now in
    let l : c.in-Some-Some.left.is_ground ≡ false = rw c.in-Some-Some.is-0 at c.of-left.ensures.mark in
    let r : c.in-Some-Some.right.is_ground ≡ false = rw c.in-Some-Some.is-1 at c.of-right.ensures.mark in
    (unmarked s c.in-Some-Some.left l, unmarked s c.in-Some-Some.right r)

pub returns-in-Some-Some-clause-stage : goal.returns-in-Some-Some-clause-stage
returns-in-Some-Some-clause-stage c =
    let s = bindings_of c.args.store.now in
    let w = c.args.work.now in
    let last = work_stage (bindings_of c.along_unless_settled.new.store) c.along_unless_settled.new.work in
    let l : plain_term c.in-Some-Some.left ≡ closure_term c.args.first.left = rw c.in-Some-Some.is-0 at c.of-left.ensures.term in
    let r : plain_term c.in-Some-Some.right ≡ closure_term c.args.first.right = rw c.in-Some-Some.is-1 at c.of-right.ensures.term in
    if_ok c.along_unless_settled.result
    (λ goes_on h. subst (λ (e : Equation). LeadsTo (stage_under s (e ∷ equations_left w) (problems_met w)) (progress_if goes_on last)) (ap₂ ◌≐◌ l r) h)
    c.along_unless_settled.ensures.stage

pub returns-in_default-clause-settled : goal.returns-in_default-clause-settled
returns-in_default-clause-settled c =
    let a = present c.args.store.now in
    let b = present c.along_closures.new.store in
    on_ok c.along_closures.result (settled_on a b c.args.work.now c.along_closures.new.work c.args.settled.now c.requires.settled) c.along_closures.ensures.goes_on

pub returns-in-Some-Some-clause-solved : goal.returns-in-Some-Some-clause-solved
returns-in-Some-Some-clause-solved c =
    let s = bindings_of c.args.store.now in
    let w = c.args.work.now in
    let r = c.along_unless_settled.result in
    let last = work_stage (bindings_of c.along_unless_settled.new.store) c.along_unless_settled.new.work in
    let l : plain_term c.in-Some-Some.left ≡ closure_term c.args.first.left = rw c.in-Some-Some.is-0 at c.of-left.ensures.term in
    let m : plain_term c.in-Some-Some.right ≡ closure_term c.args.first.right = rw c.in-Some-Some.is-1 at c.of-right.ensures.term in
    let e = ap₂ ◌≐◌ l m in
    let before = stage_under s (pair_equation c.args.first ∷ equations_left w) (problems_met w) in
    if_ok r
    (λ goes_on h. solved_on before (progress_if goes_on last)
    (subst (λ (q : Equation). LeadsTo (stage_under s (q ∷ equations_left w) (problems_met w)) (progress_if goes_on last)) e h) c.args.solved.now c.requires.solved)
    c.along_unless_settled.ensures.stage
