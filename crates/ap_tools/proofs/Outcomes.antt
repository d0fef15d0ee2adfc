-- What a steal tells, once its outcome is known.
use Rattle.std.proofs.Common.{◌≡◌, subst}
use Rattle.crossbeam_deque.specs.declared.steal.Steal.{Steal}
use Rattle.crossbeam_deque.specs.declared.steal.Steal.TheVariants.{Empty, Success, Retry}
use Rattle.crossbeam_deque.specs.Steals.{MatchSteal}

pub on_success : {T : Type 0} (r : Steal T) (x : T) (empty retry : Type 0) (task : T → Type 0) → MatchSteal r empty retry task → r ≡ Success x → task x
on_success r x empty retry task h is = subst (λ s. MatchSteal s empty retry task) is h

pub on_empty : {T : Type 0} (r : Steal T) (empty retry : Type 0) (task : T → Type 0) → MatchSteal r empty retry task → r ≡ Empty → empty
on_empty r empty retry task h is = subst (λ s. MatchSteal s empty retry task) is h

pub on_retry : {T : Type 0} (r : Steal T) (empty retry : Type 0) (task : T → Type 0) → MatchSteal r empty retry task → r ≡ Retry → retry
on_retry r empty retry task h is = subst (λ s. MatchSteal s empty retry task) is h
