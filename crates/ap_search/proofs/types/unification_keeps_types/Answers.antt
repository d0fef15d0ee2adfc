use Rattle.std.proofs.Common.{subst}
use Rattle.ap_search.proofs.TypedUnificationLemmas.{IsTypedUnified, unify_typed}
use Rattle.ap_search.proofs.types.unification_keeps_types.Goals as goal

pub returns : goal.returns
returns c = λ cs kinds bs ds ts us as' r b k t u e. subst (IsTypedUnified cs kinds) e (unify_typed cs kinds bs ds ts us as' b k t u)
