use Rattle.std.proofs.Common.{◌≡◌, ◌∷◌, ◌∙◌, ap, ap₂, subst, sym}
use Rattle.ap_defs.specs.Renaming.{rename_name, rename_term}
use Rattle.ap_defs.specs.Substitution.{Equation, ◌≐◌}
use Rattle.ap_defs.specs.Terms.{abs, act_term, term_of}
use Rattle.ap_defs.specs.declared.terms.Term.{Term}
use Rattle.ap_equations.specs.Plain.{plain_term}
use Rattle.ap_rules.proofs.WorkLemmas.{if_ok}
use Rattle.ap_rules.specs.Runs.{stage_under}
use Rattle.ap_rules.specs.Work.{equations_left, problems_met, progress_if, work_stage}
use Rattle.ap_store.specs.Views.{bindings_of}
use Rattle.ap_unify.proofs.PartLemmas.{abs_mark}
use Rattle.ap_unify.proofs.ReachLemmas.{leads_now}
use Rattle.ap_unify.proofs.moved_runs.other_moved.Goals as goal
use Rattle.ap_unify.specs.Moved.{moved_equation, waiting}
use Rattle.ap_unify.specs.Parts.{LeadsTo, progress_to, stage_with}

pub returns-in-Abs-Abs-clause-stage : goal.returns-in-Abs-Abs-clause-stage
returns-in-Abs-Abs-clause-stage c =
    let i = c.in-Abs-Abs in
    let n = c.next_binders in
    let s = bindings_of c.args.store.now in
    let w = c.args.work.now in
    let m = c.args.sides.now in
    let pair = c.args.front.now.ahead.next in
    let left = λ (v : Term). rename_term pair.left.base (term_of v) in
    let right = λ (v : Term). rename_term pair.right.base (term_of v) in
    let l = ap₂ abs c.name_within-a.ensures (ap (act_term (waiting m.left)) (c.terms_of.ensures.left ∙ ap left c.deref.ensures))
    ∙ sym (ap (λ v. act_term (waiting m.left) (left v)) i.is-0) in
    let r = ap₂ abs c.name_within-b.ensures (ap (act_term (waiting m.right)) (c.terms_of.ensures.right ∙ ap right c.deref-in-Abs-Abs.ensures))
    ∙ sym (ap (λ v. act_term (waiting m.right) (right v)) i.is-1) in
    if_ok n.result
    (λ way h. subst (λ (e : Equation). LeadsTo (stage_under s (e ∷ equations_left w) (problems_met w)) (progress_to (moved_equation n.new.sides) way s n.new.front n.new.work)) (ap₂ ◌≐◌ l r) (h s))
    n.ensures.stage

pub returns-in_ok-solved-in_default-clause-stage : goal.returns-in_ok-solved-in_default-clause-stage
returns-in_ok-solved-in_default-clause-stage c =
    leads_now (stage_with (moved_equation c.args.sides.now) (bindings_of c.args.store.now) c.args.front.now.ahead.next c.args.work.now)
    (progress_if c.in_ok-solved-in_default.solved (work_stage (bindings_of c.by_moved_closures.new.store) c.by_moved_closures.new.work))
    (sym c.in_ok-solved-in_default.ensures.stage)

pub returns-in-Abs-Abs-clause-marks : goal.returns-in-Abs-Abs-clause-marks
returns-in-Abs-Abs-clause-marks c =
    let i = c.in-Abs-Abs in
    let s = bindings_of c.args.store.now in
    let pair = c.args.front.now.ahead.next in
    let left = λ (v : Term). rename_term pair.left.base (term_of v) in
    let right = λ (v : Term). rename_term pair.right.base (term_of v) in
    let a = rename_name pair.left.base (record { sort = i.sort; num = i.num }) in
    let b = rename_name pair.right.base (record { sort = i.other_sort; num = i.other_num }) in
    let e : plain_term pair.left ≡ abs a (left i.t.value) = ap left i.is-0 in
    let f : plain_term pair.right ≡ abs b (right i.u.value) = ap right i.is-1 in
    if_ok c.next_binders.result
    (λ way h. h s (
      abs_mark s pair.left c.terms_of.result.left c.terms_of.ensures.left_mark c.requires.marks.0 a (left i.t.value) e (c.terms_of.ensures.left ∙ ap left c.deref.ensures),
      abs_mark s pair.right c.terms_of.result.right c.terms_of.ensures.right_mark c.requires.marks.1 b (right i.u.value) f (c.terms_of.ensures.right ∙ ap right c.deref-in-Abs-Abs.ensures),
    ))
    c.next_binders.ensures.marks
