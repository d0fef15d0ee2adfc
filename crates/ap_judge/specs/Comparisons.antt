-- Terms that are yet to be tested: one for which a name is to be fresh, and two that are to be equal.
use Rattle.std.specs.Prelude.{ℕ, Bool, List}
use Rattle.ap_defs.specs.declared.terms.Name.{Name}
use Rattle.ap_defs.specs.declared.terms.Swap.{Swap}
use Rattle.ap_defs.specs.Freshness.{Conds, alpha_under, fresh_under}
use Rattle.ap_defs.specs.Unification.{size}
use Rattle.ap_judge.specs.declared.equality.Compared.{Compared}
use Rattle.ap_judge.specs.declared.closures.Closure.{Closure}
use Rattle.ap_judge.specs.Binders.{within_left, within_right}
use Rattle.ap_judge.specs.Closures.{scoped_term}

abbrev pub is_fresh_for : Conds → Name → Closure → Bool
is_fresh_for ds a t = fresh_under ds a (scoped_term t)

abbrev pub size_at : Closure → ℕ
size_at t = size (scoped_term t)

abbrev pub mark_of : Compared → ℕ
mark_of c = c.mark

abbrev pub compared_size : Compared → ℕ
compared_size c = size (scoped_term c.left)

-- the first equals the second, each within its binders
abbrev pub are_alike : Conds → List Swap → Compared → Bool
are_alike ds ss c = alpha_under ds (within_left ss (scoped_term c.left)) (within_right ss (scoped_term c.right))
