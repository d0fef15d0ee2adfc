use Rattle.std.proofs.Common.{◌≡◌, drop, map}
use Rattle.std.specs.Prelude.{Some}
use Rattle.ap_defs.specs.Unification.{problem_of, reduce_all}
use Rattle.ap_theory.specs.StatementsOnConditions.{collected}
use Rattle.ap_fresh.specs.Reduction.{added}
use Rattle.ap_store.specs.Views.{bindings_of}
use Rattle.ap_unify.proofs.finish.reduce_taken.Given as goal

-- what the later ones reduce to is added
abbrev pub invariant-reducing : goal.invariant-reducing
invariant-reducing l = added (reduce_all (bindings_of l.store) (map problem_of (drop l.i l.taken))) l.initial.conds.items ≡ collected (Some l.conds.items)
