use Rattle.std.proofs.Common.{ap, ap₂, subst, ◌∙◌}
use Rattle.std.proofs.lemmas.Result.{IfOk-weaker, on_ok_weaker}
use Rattle.ap_defs.specs.Terms.{abs}
use Rattle.ap_judge.specs.Closures.{head_term, scoped_term}
use Rattle.ap_judge.specs.Tables.{IsHeadIn}
use Rattle.ap_judge.proofs.ComparisonLemmas.{alike, others}
use Rattle.ap_judge.proofs.HeadLemmas.{other_than_abs}
use Rattle.ap_judge.proofs.equality.compare_abstractions.Goals as goal

pub returns-in_default-clause-tested : goal.returns-in_default-clause-tested
returns-in_default-clause-tested c = λ ds p l r.
    let ss = c.args.walk.now.binders.pairs.items in
    let t = scoped_term c.args.t in
    ap₂ (alike ds ss) l r ∙ others ds ss (abs c.args.a t) (head_term c.args.right) (other_than_abs c.args.a t c.args.right c.in_default.not-Abs)

pub returns-in-Abs-clause-tested : goal.returns-in-Abs-clause-tested
returns-in-Abs-clause-tested c =
    IfOk-weaker c.compare_bodies.result _ _ (λ yes h ds p l r. h ds p l (r ∙ ap head_term c.in-Abs.is)) c.compare_bodies.ensures.tested

pub returns-in-Abs-clause-of : goal.returns-in-Abs-clause-of
returns-in-Abs-clause-of c = on_ok_weaker c.compare_bodies.result (λ f ts h l m. f ts h (subst (IsHeadIn ts) c.in-Abs.is l) m) c.compare_bodies.ensures.of
