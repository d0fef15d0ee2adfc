use Rattle.std.proofs.Common.{sym, ap, ◌∙◌}
use Rattle.ap_defs.specs.Terms.{unit}
use Rattle.ap_judge.specs.declared.closures.Head.{Head}
use Rattle.ap_judge.specs.Closures.{head_term}
use Rattle.ap_judge.proofs.ComparisonLemmas.{alike, others, units}
use Rattle.ap_judge.proofs.HeadLemmas.{other_than_unit}
use Rattle.ap_judge.proofs.equality.is_unit.Goals as goal

pub returns : goal.returns
returns c = λ ds ss. sym (ap (λ (h : Head). alike ds ss unit (head_term h)) c.in-Unit.is ∙ units ds ss)

pub returns-in_default : goal.returns-in_default
returns-in_default c = λ ds ss. sym (others ds ss unit (head_term c.args.right) (other_than_unit c.args.right c.in_default.not-Unit))
