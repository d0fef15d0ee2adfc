use Rattle.std.proofs.lemmas.Result.{IfOk-weaker}
use Rattle.ap_judge.proofs.closures.settled_within.Goals as goal

pub returns-clause-of : goal.returns-clause-of
returns-clause-of c = IfOk-weaker c.moved_by.result _ _ (λ u h ts k. h ts (c.in-Some.ensures.of ts k)) c.moved_by.ensures.of
