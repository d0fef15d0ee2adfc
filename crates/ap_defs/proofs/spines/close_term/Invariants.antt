-- What was made, within the layers that are left, is all.
use Rattle.std.proofs.Common.{◌≡◌, vec_len}
use Rattle.ap_defs.specs.Terms.{term_of}
use Rattle.ap_defs.specs.Spines.{term_within}
use Rattle.ap_defs.proofs.spines.close_term.Given as goal

abbrev pub invariant-loop-layer : goal.invariant-loop-layer
invariant-loop-layer l = term_within l.layers.items (term_of l.made) ≡ term_within l.fn.layers.items (term_of l.fn.t)

abbrev pub decreases-loop-layer : goal.decreases-loop-layer
decreases-loop-layer l = vec_len l.layers
