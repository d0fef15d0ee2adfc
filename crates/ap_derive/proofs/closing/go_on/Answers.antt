use Rattle.std.proofs.lemmas.Result.{IfOk-weaker}
use Rattle.ap_derive.proofs.closing.go_on.Goals as goal

pub returns-in-Some : goal.returns-in-Some
returns-in-Some c = IfOk-weaker c.close_bound.result _ _ (λ p h. h c.args.closing.now) c.close_bound.ensures
