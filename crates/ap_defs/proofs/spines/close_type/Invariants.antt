-- What was made, within the layers that are left, is all.
use Rattle.std.proofs.Common.{◌≡◌, vec_len}
use Rattle.ap_defs.specs.Types.{type_of}
use Rattle.ap_defs.specs.Spines.{type_within}
use Rattle.ap_defs.proofs.spines.close_type.Given as goal

abbrev pub invariant-loop-layer : goal.invariant-loop-layer
invariant-loop-layer l = type_within l.layers.items (type_of l.made) ≡ type_within l.fn.layers.items (type_of l.fn.t)

abbrev pub decreases-loop-layer : goal.decreases-loop-layer
decreases-loop-layer l = vec_len l.layers
