-- What is above a part, and the part, are the whole.
use Rattle.std.proofs.Common.{◌≡◌}
use Rattle.ap_defs.specs.RawTerms.{raw_of}
use Rattle.ap_spines.specs.Turned.{turned_back, part_count}
use Rattle.ap_spines.proofs.turning.turn_back.Given as goal

abbrev pub invariant-up : goal.invariant-up
invariant-up l = turned_back (raw_of l.above) (raw_of l.made) ≡ turned_back (raw_of l.fn.top) (raw_of l.fn.last)

abbrev pub decreases-up : goal.decreases-up
decreases-up l = part_count (raw_of l.above)
