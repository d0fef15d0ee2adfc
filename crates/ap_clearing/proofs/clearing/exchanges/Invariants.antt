-- Whatever takes the names that are left takes, behind those so far, all of them.
use Rattle.std.proofs.Common.{◌++◌, List, length}
use Rattle.ap_defs.specs.declared.terms.Swap.{Swap}
use Rattle.ap_clearing.specs.Clearing.{Clears}
use Rattle.ap_clearing.specs.Starts.{SkipsUsed}
use Rattle.ap_clearing.proofs.clearing.exchanges.Given as goal

abbrev pub invariant-clearing : goal.invariant-clearing
invariant-clearing l =
    SkipsUsed l.used.keys l.starts × ((tail : List Swap) → Clears l.used.keys l.rest tail → Clears l.fn.used.keys l.fn.names (l.swaps.items ++ tail))

abbrev pub decreases-clearing : goal.decreases-clearing
decreases-clearing l = length l.rest
