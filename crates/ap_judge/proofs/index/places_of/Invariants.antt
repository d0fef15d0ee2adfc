-- No variable of those at the back stands twice, and each has its place.
use Rattle.std.proofs.Common.{◌≡◌, ℕ, true, drop, map}
use Rattle.std.specs.BTreeMap.{get}
use Rattle.std.specs.Ordering.{nat_cmp}
use Rattle.ap_defs.specs.Answers.{typed_var_of}
use Rattle.ap_checks.specs.Checks.{each_once}
use Rattle.ap_judge.specs.Indexes.{place_from}
use Rattle.ap_judge.proofs.index.places_of.Given as goal

abbrev pub invariant-loop-i : goal.invariant-loop-i
invariant-loop-i l = record {
  once : each_once (map typed_var_of (drop l.i l.vars)) ≡ true;
  places : (x : ℕ) → get nat_cmp l.places x ≡ place_from l.i (drop l.i l.vars) x;
}
