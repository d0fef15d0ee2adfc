-- The conditions at the back are those that are sought.
use Rattle.std.proofs.Common.{◌≡◌, drop}
use Rattle.std.specs.BTreeSet.{contains}
use Rattle.ap_defs.specs.declared.terms.Cond.{Cond}
use Rattle.ap_defs.specs.Freshness.{has_cond}
use Rattle.ap_judge.specs.Indexes.{sought, sought_cmp}
use Rattle.ap_judge.proofs.index.conds_of.Given as goal

abbrev pub invariant-loop-i : goal.invariant-loop-i
invariant-loop-i l = (c : Cond) → contains sought_cmp l.sought (sought c) ≡ has_cond c (drop l.i l.conds)
