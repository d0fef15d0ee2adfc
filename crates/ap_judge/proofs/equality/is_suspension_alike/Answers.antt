use Rattle.std.proofs.Common.{sym}
use Rattle.ap_defs.specs.Terms.{susp}
use Rattle.ap_judge.specs.Closures.{head_term}
use Rattle.ap_judge.proofs.ComparisonLemmas.{others}
use Rattle.ap_judge.proofs.HeadLemmas.{other_than_susp}
use Rattle.ap_judge.proofs.equality.is_suspension_alike.Goals as goal

pub returns-in_default : goal.returns-in_default
returns-in_default c =
    sym (others c.args.answer.now.conds c.args.binders.now.pairs.items (susp c.args.p.now c.args.x) (head_term c.args.right) (other_than_susp c.args.p.now c.args.x c.args.right c.in_default.not-Susp))
