-- The names at the back differ, and are those that were seen.
use Rattle.std.proofs.Common.{◌≡◌, true, drop}
use Rattle.std.specs.BTreeSet.{contains}
use Rattle.ap_defs.specs.declared.terms.Name.{Name}
use Rattle.ap_defs.specs.Permutations.{has_name}
use Rattle.ap_checks.specs.Checks.{are_different}
use Rattle.ap_judge.specs.Indexes.{sought_name, sought_name_cmp}
use Rattle.ap_checker.proofs.nodes.all_differ.Given as goal

abbrev pub invariant-loop-i : goal.invariant-loop-i
invariant-loop-i l = record {
  different : are_different (drop l.i l.names) ≡ true;
  seen : (a : Name) → contains sought_name_cmp l.seen (sought_name a) ≡ has_name a (drop l.i l.names);
}
