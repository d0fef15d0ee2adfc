-- What is above a part, and the part, are the whole.
use Rattle.std.proofs.Common.{◌≡◌}
use Rattle.ap_defs.specs.Terms.{term_of}
use Rattle.ap_defs.specs.Unification.{size}
use Rattle.ap_restrict.specs.Owned.{brought_back}
use Rattle.ap_restrict.proofs.owned.bring_back.Given as goal

abbrev pub invariant-up : goal.invariant-up
invariant-up l = brought_back (term_of l.above) (term_of l.made) ≡ brought_back (term_of l.fn.top) (term_of l.fn.last)

abbrev pub decreases-up : goal.decreases-up
decreases-up l = size (term_of l.above)
