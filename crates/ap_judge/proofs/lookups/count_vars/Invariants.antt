use Rattle.std.proofs.Common.{◌≡◌, ◌+◌, ◌≤◌, drop, length, zero}
use Rattle.ap_defs.specs.Renaming.{local_vars}
use Rattle.ap_defs.specs.Types.{locals_of}
use Rattle.ap_judge.proofs.lookups.count_vars.Given as goal

abbrev pub invariant-loop-i : goal.invariant-loop-i
invariant-loop-i l = record {
  all : l.count + length (local_vars l.i (locals_of (drop l.i l.locals))) ≡ length (local_vars zero (locals_of l.locals));
  few : l.count ≤ l.i;
}
