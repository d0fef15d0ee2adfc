use Rattle.std.proofs.Common.{subst}
use Rattle.ap_search.proofs.NumberLemmas.{IsUnifiedBelow, unify_below}
use Rattle.ap_search.proofs.fit_states.unified_is_below.Goals as goal

pub returns : goal.returns
returns c = λ n bs ds ts us r b k t u e. subst (IsUnifiedBelow n) e (unify_below n bs ds ts us b k t u)
