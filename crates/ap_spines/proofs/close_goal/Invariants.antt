-- What was made, within the layers that are left, is all.
use Rattle.std.proofs.Common.{◌≡◌, vec_len}
use Rattle.ap_defs.specs.Goals.{goal_over}
use Rattle.ap_defs.specs.RawTerms.{raw_of}
use Rattle.ap_spines.specs.Spines.{raw_goal_within}
use Rattle.ap_spines.proofs.close_goal.Given as goal

abbrev pub invariant-loop-layer : goal.invariant-loop-layer
invariant-loop-layer l = raw_goal_within l.layers.items (goal_over raw_of l.made) ≡ raw_goal_within l.fn.layers.items (goal_over raw_of l.fn.g)

abbrev pub decreases-loop-layer : goal.decreases-loop-layer
decreases-loop-layer l = vec_len l.layers
