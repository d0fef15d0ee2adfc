-- Heads that no binding changes.
use Rattle.std.proofs.Common.{◌≡◌, List, ap}
use Rattle.ap_defs.specs.Substitution.{Binding, moved, under}
use Rattle.ap_defs.specs.Terms.{susp}
use Rattle.ap_defs.specs.declared.terms.Swap.{Swap}
use Rattle.ap_defs.specs.declared.terms.Var.{Var}
use Rattle.ap_store.specs.Heads.{IsHeadUnbound}
use Rattle.ap_theory.proofs.IdempotenceLemmas.{bound_term_unbound}

-- what no bound variable stands at the head of stays
pub head_stays : (bs : List Binding) (p : List Swap) (x : Var) → IsHeadUnbound bs (susp p x) → under bs (susp p x) ≡ susp p x
head_stays bs p x h = ap (moved p x) (bound_term_unbound bs x h)
