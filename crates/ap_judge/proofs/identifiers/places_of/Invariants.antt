-- The places so far, and those of the identifiers that are left.
use Rattle.std.proofs.Common.{◌≡◌, ◌≤◌, ◌++◌, drop}
use Rattle.ap_defs.specs.Types.{locals_of}
use Rattle.ap_judge.specs.Places.{places_from}
use Rattle.ap_judge.proofs.identifiers.places_of.Given as goal

abbrev pub invariant-loop-i : goal.invariant-loop-i
invariant-loop-i l = record {
  places : l.places.items ++ places_from l.names l.vars (locals_of (drop l.i l.locals)) ≡ places_from 0 0 (locals_of l.locals);
  names : l.names ≤ l.i;
  vars : l.vars ≤ l.i;
}
