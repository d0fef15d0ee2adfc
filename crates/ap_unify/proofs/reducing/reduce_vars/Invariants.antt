use Rattle.std.proofs.Common.{drop, ◌≡◌}
use Rattle.std.specs.Prelude.{Some}
use Rattle.ap_defs.specs.Resolution.{fresh_for_each}
use Rattle.ap_defs.specs.Unification.{reduce_all}
use Rattle.ap_theory.specs.StatementsOnConditions.{collected}
use Rattle.ap_fresh.specs.Reduction.{added}
use Rattle.ap_store.specs.Views.{bindings_of}
use Rattle.ap_unify.proofs.reducing.reduce_vars.Given as goal

-- what the later ones reduce to is added
abbrev pub invariant-reducing : goal.invariant-reducing
invariant-reducing l = added (reduce_all (bindings_of l.store) (fresh_for_each l.a (drop l.i l.vars))) l.initial.conds.items ≡ collected (Some l.conds.items)
