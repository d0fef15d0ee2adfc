-- Those that are left out of the list's end are kept in order, under their places.
use Rattle.std.proofs.Common.{◌≡◌, ◌-◌, ◌≤◌, length, drop}
use Rattle.std.specs.Prelude.{filter}
use Rattle.ap_defs.specs.Lines.{sort_conds, printed_before}
use Rattle.ap_answers.specs.Conditions.{occurs_in}
use Rattle.ap_answers.specs.VarSets.{vars_of_set}
use Rattle.ap_answers.proofs.ConditionLemmas.{kept_conds, Keyed}
use Rattle.ap_answers.proofs.conditions.shown_conditions.Given as goal

abbrev pub invariant-loop-left : goal.invariant-loop-left
invariant-loop-left l = record {
  kept : kept_conds l.placed.entries ≡ sort_conds (printed_before l.names.keys (vars_of_set l.vars)) (filter (occurs_in l.names.keys (vars_of_set l.vars)) (drop l.left l.conds));
  keyed : Keyed l.names.keys (vars_of_set l.vars) (length l.conds - l.left) l.placed.entries;
  within : l.left ≤ length l.conds;
}

abbrev pub decreases-loop-left : goal.decreases-loop-left
decreases-loop-left l = l.left
