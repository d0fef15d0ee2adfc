use Rattle.std.proofs.Common.{◌≡◌, ◌≤◌, drop, length, zero}
use Rattle.ap_defs.specs.Renaming.{local_names}
use Rattle.ap_defs.specs.Types.{locals_of}
use Rattle.ap_checks.specs.TypeTests.{have_sorts}
use Rattle.ap_checker.proofs.fits.names_fit.Given as goal

abbrev pub invariant-loop-i : goal.invariant-loop-i
invariant-loop-i l = record {
  same : have_sorts (local_names l.i (locals_of (drop l.i l.locals))) (drop l.place l.names) ≡ have_sorts (local_names zero (locals_of l.locals)) l.names;
  within : l.place ≤ length l.names;
}
