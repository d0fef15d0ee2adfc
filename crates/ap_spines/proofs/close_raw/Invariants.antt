-- What was made, within the layers that are left, is all.
use Rattle.std.proofs.Common.{◌≡◌, vec_len}
use Rattle.ap_defs.specs.RawTerms.{raw_of}
use Rattle.ap_spines.specs.Spines.{raw_within}
use Rattle.ap_spines.proofs.close_raw.Given as goal

abbrev pub invariant-loop-layer : goal.invariant-loop-layer
invariant-loop-layer l = raw_within l.layers.items (raw_of l.made) ≡ raw_within l.fn.layers.items (raw_of l.fn.t)

abbrev pub decreases-loop-layer : goal.decreases-loop-layer
decreases-loop-layer l = vec_len l.layers
