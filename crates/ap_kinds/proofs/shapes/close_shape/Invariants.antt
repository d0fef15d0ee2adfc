-- What was made, within the layers that are left, is all.
use Rattle.std.proofs.Common.{◌≡◌, vec_len}
use Rattle.ap_defs.specs.Types.{shape_of}
use Rattle.ap_kinds.specs.Layers.{shape_within}
use Rattle.ap_kinds.proofs.shapes.close_shape.Given as goal

abbrev pub invariant-loop-layer : goal.invariant-loop-layer
invariant-loop-layer l = shape_within l.layers.items (shape_of l.made) ≡ shape_within l.fn.layers.items (shape_of l.fn.t)

abbrev pub decreases-loop-layer : goal.decreases-loop-layer
decreases-loop-layer l = vec_len l.layers
