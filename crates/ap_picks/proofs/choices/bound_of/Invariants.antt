-- The bound so far and that of what is left.
use Rattle.std.proofs.Common.{◌≡◌, length, map, max}
use Rattle.ap_defs.specs.Types.{constructor_of}
use Rattle.ap_picks.specs.Picks.{data_bound}
use Rattle.ap_picks.proofs.choices.bound_of.Given as goal

abbrev pub invariant-bounding : goal.invariant-bounding
invariant-bounding l = max l.bound (data_bound (map constructor_of l.rest)) ≡ data_bound (map constructor_of l.fn.constructors)

abbrev pub decreases-bounding : goal.decreases-bounding
decreases-bounding l = length l.rest
