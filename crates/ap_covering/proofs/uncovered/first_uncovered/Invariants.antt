-- Those so far are to be covered.
use Rattle.std.proofs.Common.{◌≡◌, ◌+◌, drop, map}
use Rattle.ap_bundle.specs.Bundles.{proved_of}
use Rattle.ap_covering.specs.Uncovered as spec
use Rattle.ap_covering.proofs.uncovered.first_uncovered.Given as goal

abbrev pub invariant-loop-i : goal.invariant-loop-i
invariant-loop-i l = spec.first_uncovered l.depth (l.i + 1) (map proved_of (drop l.i l.proved)) ≡ spec.first_uncovered l.depth 1 (map proved_of l.proved)
