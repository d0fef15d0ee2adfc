-- Behind the conditions from before stand those so far, which with those of what is left are all, in their order; what a name tells in a variable
-- in which it was sought is among them, or is told by what is left.
use Rattle.ap_defs.specs.Freshness.{reduce as by_rules}
use Rattle.ap_perm.specs.Lookups.{carried_out}
use Rattle.ap_fresh.specs.Reduction.{pending_term}
use Rattle.ap_fresh.specs.Sought.{was_sought}
use Rattle.ap_fresh.proofs.ListingLemmas.{IsPutting}
use Rattle.ap_fresh.proofs.PendingLemmas.{visits_left_in}
use Rattle.ap_fresh.proofs.reduction.collect_from.Given as goal

abbrev pub invariant-collecting : goal.invariant-collecting
invariant-collecting g l =
    IsPutting (g.L.Look.bound l.look) (g.L.Look.rank l.look) (g.met.L.Look.ranked l.look) l.fn.conds.items
    (by_rules l.fn.first.name (carried_out (g.L.Look.bound l.fn.look) (g.L.Look.rank l.fn.look) (pending_term l.fn.first)))
    (was_sought l.sought) l.left.items l.conds.items

abbrev pub decreases-collecting : goal.decreases-collecting
decreases-collecting g l = visits_left_in (g.L.Look.bound l.look) (g.L.Look.rank l.look) (g.met.L.Look.ranked l.look) l.left.items
