use Rattle.std.proofs.Common.{sym, ap, ◌∙◌}
use Rattle.ap_defs.specs.Terms.{name}
use Rattle.ap_judge.specs.declared.closures.Head.{Head}
use Rattle.ap_judge.specs.Closures.{head_term}
use Rattle.ap_judge.proofs.ComparisonLemmas.{alike, names, others}
use Rattle.ap_judge.proofs.HeadLemmas.{other_than_name}
use Rattle.ap_judge.proofs.equality.is_name_alike.Goals as goal

pub returns : goal.returns
returns c = λ ds.
    let ss = c.args.binders.now.pairs.items in
    c.mean_same.ensures ∙ sym (ap (λ (h : Head). alike ds ss (name c.args.a) (head_term h)) c.in-Name.is ∙ names ds ss c.args.a c.in-Name.b)

pub returns-in_default : goal.returns-in_default
returns-in_default c = λ ds.
    sym (others ds c.args.binders.now.pairs.items (name c.args.a) (head_term c.args.right) (other_than_name c.args.a c.args.right c.in_default.not-Name))
