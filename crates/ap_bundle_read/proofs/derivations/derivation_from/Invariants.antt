-- The nodes that are left, before the derivations so far, are all.
use Rattle.std.proofs.Common.{◌≡◌, map, vec_len}
use Rattle.ap_defs.specs.Derivations.{derivation_of}
use Rattle.ap_bundle.specs.Nodes.{derivations}
use Rattle.ap_bundle_read.specs.Nodes.{node_of}
use Rattle.ap_bundle_read.specs.Stacks.{stacked}
use Rattle.ap_bundle_read.proofs.StackLemmas.{derivations_onto}
use Rattle.ap_bundle_read.proofs.derivations.derivation_from.Given as goal

abbrev pub invariant-loop-node : goal.invariant-loop-node
invariant-loop-node l = derivations_onto (map node_of l.nodes.items) (stacked derivation_of l.stack.items) ≡ derivations (map node_of l.fn.nodes.items)

abbrev pub decreases-loop-node : goal.decreases-loop-node
decreases-loop-node l = vec_len l.nodes
