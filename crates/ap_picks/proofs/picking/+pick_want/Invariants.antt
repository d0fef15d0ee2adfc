-- What is still to be picked stands within layers.
use Rattle.std.proofs.Common.{map}
use Rattle.ap_defs.specs.Types.{constructor_of}
use Rattle.ap_picks.specs.Wants.{cost}
use Rattle.ap_picks.proofs.StepLemmas.{IsRest}
use Rattle.ap_picks.proofs.picking.+pick_want.Given as goal

abbrev pub decreases-pick_want : goal.decreases-pick_want
decreases-pick_want l = cost (map constructor_of l.source.now.constructors.now) l.want

abbrev pub invariant-picking : goal.invariant-picking
invariant-picking l =
    IsRest (map constructor_of l.source.constructors.now) l.source.first l.fn.want l.fn.sorts.items l.layers.items l.rest l.sorts.items

abbrev pub decreases-picking : goal.decreases-picking
decreases-picking l = cost (map constructor_of l.source.constructors.now) l.rest
