use Rattle.std.proofs.Common.{◌≡◌, ◌∙◌, ap, subst}
use Rattle.ap_defs.specs.Renaming.{IsBelow, rename_name, rename_term}
use Rattle.ap_defs.specs.Terms.{abs, app, pair, term_of}
use Rattle.ap_defs.specs.declared.terms.Term.{Term}
use Rattle.ap_equations.specs.Plain.{plain_term}
use Rattle.ap_unify.proofs.PartLemmas.{abs_mark, app_mark, first_mark, second_mark}
use Rattle.ap_unify.proofs.moved.moved_forms.Goals as goal

pub same_image-requires-clause-left : goal.same_image-requires-clause-left
same_image-requires-clause-left c =
    let p = c.args.ahead.now.next.left in
    subst (λ (u : Term). IsBelow p.end (rename_term p.base (term_of u))) c.in-Name-Name.is-0 p.below

pub same_image-requires-clause-right : goal.same_image-requires-clause-right
same_image-requires-clause-right c =
    let p = c.args.ahead.now.next.right in
    subst (λ (u : Term). IsBelow p.end (rename_term p.base (term_of u))) c.in-Name-Name.is-1 p.below

pub same_image-requires-in-Abs-Abs-clause-left : goal.same_image-requires-in-Abs-Abs-clause-left
same_image-requires-in-Abs-Abs-clause-left c =
    let p = c.args.ahead.now.next.left in
    let k = subst (λ (u : Term). IsBelow p.end (rename_term p.base (term_of u))) c.in-Abs-Abs.is-0 p.below in
    k.0

pub same_image-requires-in-Abs-Abs-clause-right : goal.same_image-requires-in-Abs-Abs-clause-right
same_image-requires-in-Abs-Abs-clause-right c =
    let p = c.args.ahead.now.next.right in
    let k = subst (λ (u : Term). IsBelow p.end (rename_term p.base (term_of u))) c.in-Abs-Abs.is-1 p.below in
    k.0

pub returns-in-Pair-Pair-clause-marks : goal.returns-in-Pair-Pair-clause-marks
returns-in-Pair-Pair-clause-marks c = λ s h.
    let p = c.args.ahead.now.next.left in
    let q = c.args.ahead.now.next.right in
    let left = λ (w : Term). rename_term p.base (term_of w) in
    let right = λ (w : Term). rename_term q.base (term_of w) in
    let i = c.in-Pair-Pair in
    let e : plain_term p ≡ pair (left i.t.value) (left i.v.value) = ap left i.is-0 in
    let f : plain_term q ≡ pair (right i.u.value) (right i.w.value) = ap right i.is-1 in
    let first = c.terms_of-ahead in
    let second = c.terms_of-ahead-in-Pair-Pair in (
      (
        first_mark s p first.result.left first.ensures.left_mark h.0 (left i.t.value) (left i.v.value) e (first.ensures.left ∙ ap left c.deref.ensures),
        first_mark s q first.result.right first.ensures.right_mark h.1 (right i.u.value) (right i.w.value) f (first.ensures.right ∙ ap right c.deref-in-Pair-Pair.ensures),
      ),
      (
        second_mark s p second.result.left second.ensures.left_mark h.0 (left i.t.value) (left i.v.value) e (second.ensures.left ∙ ap left c.deref-in-Pair-Pair-2.ensures),
        second_mark s q second.result.right second.ensures.right_mark h.1 (right i.u.value) (right i.w.value) f (second.ensures.right ∙ ap right c.deref-in-Pair-Pair-3.ensures),
      ),
    )

pub returns-then-f-g-clause-marks : goal.returns-then-f-g-clause-marks
returns-then-f-g-clause-marks c = λ s h.
    let p = c.args.ahead.now.next.left in
    let q = c.args.ahead.now.next.right in
    let left = λ (w : Term). rename_term p.base (term_of w) in
    let right = λ (w : Term). rename_term q.base (term_of w) in
    let i = c.in-App-App in
    let e : plain_term p ≡ app i.f (left i.t.value) = ap left i.is-0 in
    let f : plain_term q ≡ app i.g (right i.u.value) = ap right i.is-1 in
    let made = c.terms_of-ahead-then-f-g in (
      app_mark s p made.result.left made.ensures.left_mark h.0 i.f (left i.t.value) e (made.ensures.left ∙ ap left c.deref-then-f-g.ensures),
      app_mark s q made.result.right made.ensures.right_mark h.1 i.g (right i.u.value) f (made.ensures.right ∙ ap right c.deref-then-f-g-2.ensures),
    )

pub returns-then-same_image-2-clause-marks : goal.returns-then-same_image-2-clause-marks
returns-then-same_image-2-clause-marks c = λ s h.
    let p = c.args.ahead.now.next.left in
    let q = c.args.ahead.now.next.right in
    let left = λ (w : Term). rename_term p.base (term_of w) in
    let right = λ (w : Term). rename_term q.base (term_of w) in
    let i = c.in-Abs-Abs in
    let a = rename_name p.base (record { sort = i.sort; num = i.num }) in
    let b = rename_name q.base (record { sort = i.other_sort; num = i.other_num }) in
    let e : plain_term p ≡ abs a (left i.t.value) = ap left i.is-0 in
    let f : plain_term q ≡ abs b (right i.u.value) = ap right i.is-1 in
    let made = c.terms_of-ahead-then-same_image-2 in (
      abs_mark s p made.result.left made.ensures.left_mark h.0 a (left i.t.value) e (made.ensures.left ∙ ap left c.deref-then-same_image-2.ensures),
      abs_mark s q made.result.right made.ensures.right_mark h.1 b (right i.u.value) f (made.ensures.right ∙ ap right c.deref-then-same_image-2-2.ensures),
    )
