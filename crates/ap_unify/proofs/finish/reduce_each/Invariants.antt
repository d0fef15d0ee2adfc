use Rattle.std.proofs.Common.{◌≡◌, drop, map}
use Rattle.std.specs.Prelude.{Some}
use Rattle.ap_defs.specs.Unification.{reduce_all}
use Rattle.ap_theory.specs.StatementsOnConditions.{collected}
use Rattle.ap_fresh.specs.Reduction.{added}
use Rattle.ap_store.specs.Views.{bindings_of}
use Rattle.ap_rules.specs.Work.{problem_for}
use Rattle.ap_unify.proofs.finish.reduce_each.Given as goal

-- what the later ones reduce to is added
abbrev pub invariant-reducing : goal.invariant-reducing
invariant-reducing l = added (reduce_all (bindings_of l.store) (map problem_for (drop l.i l.problems))) l.initial.conds.items ≡ collected (Some l.conds.items)
