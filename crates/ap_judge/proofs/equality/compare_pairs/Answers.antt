use Rattle.std.proofs.Common.{◌≡◌, ◌+◌, refl, length, ap, ap₂, subst, ◌∙◌, arith}
use Rattle.ap_defs.specs.Terms.{pair}
use Rattle.ap_defs.specs.Unification.{size}
use Rattle.ap_judge.specs.declared.binders.Binders.{Binders}
use Rattle.ap_judge.specs.Comparisons.{are_alike, mark_of, compared_size}
use Rattle.ap_judge.specs.Closures.{head_term, scoped_term}
use Rattle.ap_judge.specs.Tables.{IsHeadIn}
use Rattle.ap_judge.proofs.ComparisonLemmas.{alike, others, pairs}
use Rattle.ap_judge.proofs.HeadLemmas.{other_than_pair}
use Rattle.ap_judge.proofs.StackLemmas.{left_two}
use Rattle.ap_judge.proofs.equality.compare_pairs.Goals as goal

pub returns-in_default-clause-tested : goal.returns-in_default-clause-tested
returns-in_default-clause-tested c = λ ds p l r.
    let ss = c.args.walk.now.binders.pairs.items in
    let t = scoped_term c.args.t in
    let u = scoped_term c.args.u in
    ap₂ (alike ds ss) l r ∙ others ds ss (pair t u) (head_term c.args.right) (other_than_pair t u c.args.right c.in_default.not-Pair)

pub returns-clause-tested : goal.returns-clause-tested
returns-clause-tested c = λ ds p l r.
    let ss = c.args.walk.now.binders.pairs.items in
    let t = scoped_term c.args.t in
    let u = scoped_term c.args.u in
    let v = scoped_term c.in-Pair.v in
    let w = scoped_term c.in-Pair.w in
    let right : scoped_term p.right ≡ pair v w = r ∙ ap head_term c.in-Pair.is in
    let whole : size (scoped_term p.left) ≡ 1 + size t + size u = ap size l in
    left_two mark_of (are_alike ds) compared_size p
    (record { left = c.args.t; right = c.in-Pair.v; mark = length c.put.new.self.binders.pairs.items })
    (record { left = c.args.u; right = c.in-Pair.w; mark = length ss })
    ss c.put-2.new.self.binders.pairs.items c.args.walk.now.pending.items c.put.new.self.pending.items c.put-2.new.self.pending.items c.requires.within
    (ap (λ (z : Binders). z.pairs.items) (c.put-2.ensures.binders ∙ c.put.ensures.binders)) refl c.in_ok-put.ensures.pending
    (ap (λ (z : Binders). length z.pairs.items) c.put.ensures.binders) c.in_ok-put-2.ensures.pending
    (ap₂ (alike ds ss) l right ∙ pairs ds ss t u v w) (omega (arith, whole))

pub returns-clause-of : goal.returns-clause-of
returns-clause-of c = λ ts h k l m.
    let r = subst (IsHeadIn ts) c.in-Pair.is l in
    c.in_ok-put-2.ensures.of ts h r.0 (c.in_ok-put.ensures.of ts k r.1 m)
