use Rattle.std.proofs.lemmas.Result.{IfOk-weaker}
use Rattle.ap_judge.proofs.closures.suspended_head.Goals as goal

pub returns-clause-of : goal.returns-clause-of
returns-clause-of c = IfOk-weaker c.head_moved_by.result _ _ (λ h k ts p. k ts (c.in-Some.ensures.of ts p)) c.head_moved_by.ensures.of
