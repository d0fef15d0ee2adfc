-- a variable stands in the whole where it is gathered, or stands in a part that waits
use Rattle.std.proofs.Common.{◌≡◌, ◌||◌}
use Rattle.ap_defs.specs.Substitution.{occurs}
use Rattle.ap_defs.specs.Unification.{has_var}
use Rattle.ap_defs.specs.declared.terms.Var.{Var}
use Rattle.ap_store.specs.Founds.{bare_term}
use Rattle.ap_store.specs.Own.{occurs_own}
use Rattle.ap_store.proofs.own.own_vars.Given as goal

abbrev pub invariant-gathering : goal.invariant-gathering
invariant-gathering l = (y : Var) → (has_var y l.vars.items || occurs_own y l.waiting.items) ≡ occurs y (bare_term l.fn.first)
