use Rattle.ap_theory.proofs.IdempotenceLemmas.{under_under}
use Rattle.ap_theory.proofs.OpenSoundnessLemmas.{is_bound_unify, under_unify, unify_idempotent}
use Rattle.ap_theory.proofs.results.result_is_idempotent.Goals as goal

pub returns-clause-twice : goal.returns-clause-twice
returns-clause-twice c = under_under

pub returns-clause-idempotent : goal.returns-clause-idempotent
returns-clause-idempotent c = unify_idempotent

pub returns-clause-extends : goal.returns-clause-extends
returns-clause-extends c = under_unify

pub returns-clause-bound : goal.returns-clause-bound
returns-clause-bound c = is_bound_unify
