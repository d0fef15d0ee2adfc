-- Each number that is no lower and above the names that are left is above all of them.
use Rattle.std.proofs.Common.{◌≤◌, ℕ, length}
use Rattle.ap_coverer.specs.Covering.{AreNamesBelow}
use Rattle.ap_coverer.proofs.filling.above_conds.Given as goal

abbrev pub invariant-passing : goal.invariant-passing
invariant-passing l = (n : ℕ) → l.above ≤ n → AreNamesBelow n l.swaps l.rest → AreNamesBelow n l.swaps l.fn.conds

abbrev pub decreases-passing : goal.decreases-passing
decreases-passing l = length l.rest
