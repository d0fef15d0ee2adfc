use Rattle.std.proofs.lemmas.Result.{IfOk-weaker}
use Rattle.ap_judge.proofs.closures.moved_head.Goals as goal

pub returns-in-Pair-clause-of : goal.returns-in-Pair-clause-of
returns-in-Pair-clause-of c = IfOk-weaker c.moved_pair.result _ _ (λ h k ts p. let both = c.in-Pair.ensures.of ts p in k ts both.0 both.1) c.moved_pair.ensures.of

pub returns-in_ok-moved-in-App-clause-of : goal.returns-in_ok-moved-in-App-clause-of
returns-in_ok-moved-in-App-clause-of c = λ ts h. c.in_ok-moved-in-App.ensures.of ts (c.in-App.ensures.of ts h)

pub returns-in_ok-moved-in-Abs-clause-of : goal.returns-in_ok-moved-in-Abs-clause-of
returns-in_ok-moved-in-Abs-clause-of c = λ ts h. c.in_ok-moved-in-Abs.ensures.of ts (c.in-Abs.ensures.of ts h)
