use Rattle.std.proofs.Common.{◌≡◌, ◌==◌, ◌&&◌, ◌+◌, true, false, refl, length, ap, ap₂, subst, ◌∙◌, arith}
use Rattle.std.proofs.lemmas.Bool.Decides.{nat_tests}
use Rattle.ap_defs.specs.Terms.{app}
use Rattle.ap_defs.specs.Unification.{size}
use Rattle.ap_judge.specs.declared.binders.Binders.{Binders}
use Rattle.ap_judge.specs.Comparisons.{are_alike, mark_of, compared_size}
use Rattle.ap_judge.specs.Closures.{head_term, scoped_term}
use Rattle.ap_judge.specs.Tables.{IsHeadIn}
use Rattle.ap_judge.proofs.ComparisonLemmas.{alike, apps, others}
use Rattle.ap_judge.proofs.HeadLemmas.{other_than_app}
use Rattle.ap_judge.proofs.StackLemmas.{left_here}
use Rattle.ap_judge.proofs.equality.compare_apps.Goals as goal

pub returns-in_default-clause-tested : goal.returns-in_default-clause-tested
returns-in_default-clause-tested c = λ ds p l r.
    let ss = c.args.walk.now.binders.pairs.items in
    let t = scoped_term c.args.t in
    ap₂ (alike ds ss) l r ∙ others ds ss (app c.args.f t) (head_term c.args.right) (other_than_app c.args.f t c.args.right c.in_default.not-App)

pub returns-then-f-g-clause-tested : goal.returns-then-f-g-clause-tested
returns-then-f-g-clause-tested c = λ ds p l r.
    let ss = c.args.walk.now.binders.pairs.items in
    let t = scoped_term c.args.t in
    let u = scoped_term c.in-App.u in
    let other : (c.args.f == c.in-App.g) ≡ false = grind (arith, nat_tests, c.if-f-g.true) in
    let right : scoped_term p.right ≡ app c.in-App.g u = r ∙ ap head_term c.in-App.is in
    ap₂ (alike ds ss) l right ∙ apps ds ss c.args.f c.in-App.g t u ∙ ap (λ b. b && alike ds ss t u) other

pub returns-clause-tested : goal.returns-clause-tested
returns-clause-tested c = λ ds p l r.
    let ss = c.args.walk.now.binders.pairs.items in
    let t = scoped_term c.args.t in
    let u = scoped_term c.in-App.u in
    let same : (c.args.f == c.in-App.g) ≡ true = grind (arith, nat_tests, c.if-f-g.false) in
    let right : scoped_term p.right ≡ app c.in-App.g u = r ∙ ap head_term c.in-App.is in
    let whole : size (scoped_term p.left) ≡ 1 + size t = ap size l in
    left_here mark_of (are_alike ds) compared_size p (record { left = c.args.t; right = c.in-App.u; mark = length ss })
    ss c.put.new.self.binders.pairs.items c.args.walk.now.pending.items c.put.new.self.pending.items c.requires.within
    (ap (λ (z : Binders). z.pairs.items) c.put.ensures.binders) refl c.in_ok-put.ensures.pending
    (ap₂ (alike ds ss) l right ∙ apps ds ss c.args.f c.in-App.g t u ∙ ap (λ b. b && alike ds ss t u) same) (omega (arith, whole))

pub returns-clause-of : goal.returns-clause-of
returns-clause-of c = λ ts h l m. c.in_ok-put.ensures.of ts h (subst (IsHeadIn ts) c.in-App.is l) m
