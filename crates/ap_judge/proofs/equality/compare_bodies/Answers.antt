use Rattle.std.proofs.Common.{◌≡◌, ◌==◌, true, false, refl, length, sym, ap, ap₂, ◌∙◌, arith}
use Rattle.std.proofs.lemmas.Bool.Decides.{nat_tests}
use Rattle.ap_defs.specs.Freshness.{alpha_under}
use Rattle.ap_judge.specs.Closures.{scoped_term}
use Rattle.ap_defs.specs.Unification.{size}
use Rattle.ap_theory.proofs.TermLemmas.{number_same}
use Rattle.ap_judge.specs.declared.binders.Binders.{Binders}
use Rattle.ap_judge.specs.Binders.{mean_same, within_left, within_right}
use Rattle.ap_judge.specs.Comparisons.{are_alike, mark_of, compared_size}
use Rattle.ap_judge.proofs.ComparisonLemmas.{known_binders, new_binders, other_sorts}
use Rattle.ap_judge.proofs.StackLemmas.{left_brought, left_here}
use Rattle.ap_judge.proofs.equality.compare_bodies.Goals as goal

pub returns-then-a-b-clause-tested : goal.returns-then-a-b-clause-tested
returns-then-a-b-clause-tested c = λ ds p l r.
    let ss = c.args.walk.now.binders.pairs.items in
    let a = c.args.binders.0 in
    let b = c.args.binders.1 in
    let sorts : (a.sort == b.sort) ≡ false = grind (arith, nat_tests, c.if-a-b.true) in
    ap₂ (λ t u. alpha_under ds (within_left ss t) (within_right ss u)) l r ∙ other_sorts ds ss a b (scoped_term c.args.left) (scoped_term c.args.right) sorts

pub returns-then-mean_same-clause-tested : goal.returns-then-mean_same-clause-tested
returns-then-mean_same-clause-tested c = λ ds p l r.
    let ss = c.args.walk.now.binders.pairs.items in
    let a = c.args.binders.0 in
    let b = c.args.binders.1 in
    let known : mean_same ss a b ≡ true = sym c.mean_same.ensures ∙ c.if-mean_same.true in
    let sizes = ap size l in
    left_here mark_of (are_alike ds) compared_size p (record { left = c.args.left; right = c.args.right; mark = length ss }) ss c.put.new.self.binders.pairs.items c.args.walk.now.pending.items
    c.put.new.self.pending.items c.requires.within (ap (λ (z : Binders). z.pairs.items) c.put.ensures.binders) refl c.in_ok-put.ensures.pending
    (ap₂ (λ t u. alpha_under ds (within_left ss t) (within_right ss u)) l r ∙ known_binders ds ss a b (scoped_term c.args.left) (scoped_term c.args.right) known) (omega (arith, sizes))

pub returns-clause-tested : goal.returns-clause-tested
returns-clause-tested c = λ ds p l r.
    let ss = c.args.walk.now.binders.pairs.items in
    let a = c.args.binders.0 in
    let b = c.args.binders.1 in
    let sorts : (a.sort == b.sort) ≡ true = grind (arith, nat_tests, c.if-a-b.false) in
    let sizes = ap size l in
    left_brought mark_of (are_alike ds) compared_size p (record { left = c.args.left; right = c.args.right; mark = length c.push.new.self.pairs.items })
    (record { sort = a.sort; left = a.num; right = b.num }) ss c.put-2.new.self.binders.pairs.items c.args.walk.now.pending.items c.put-2.new.self.pending.items
    c.requires.within (ap (λ (z : Binders). z.pairs.items) c.put-2.ensures.binders ∙ c.in_ok-push.ensures.pairs) (ap (λ (z : Binders). length z.pairs.items) (sym c.put-2.ensures.binders))
    c.in_ok-put-2.ensures.pending
    (ap₂ (λ t u. alpha_under ds (within_left ss t) (within_right ss u)) l r
    ∙ new_binders ds ss a b (scoped_term c.args.left) (scoped_term c.args.right) (record { sort = a.sort; left = a.num; right = b.num }) refl (number_same a.sort b.sort sorts))
    (omega (arith, sizes))
