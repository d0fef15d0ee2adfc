use Rattle.std.proofs.Common.{subst, sym}
use Rattle.ap_rules.proofs.WorkLemmas.{if_ok}
use Rattle.ap_unify.proofs.solved.is_known.Goals as goal
use Rattle.ap_unify.specs.Solved.{AllKnown}

pub returns-in-Some : goal.returns-in-Some
returns-in-Some c = if_ok c.is_at.result (λ same h. λ r k a. h r k (subst (AllKnown r) (sym c.deref.ensures.value) a.0)) c.is_at.ensures
