-- The nodes that are left, before the derivations so far, are all.
use Rattle.std.proofs.Common.{◌≡◌, map, vec_len}
use Rattle.ap_shared.specs.LineDerivations.{derivation_lines}
use Rattle.ap_bundle.specs.Nodes.{derivations}
use Rattle.ap_shared.specs.LineNodes.{node_by_lines}
use Rattle.ap_shared.specs.Expanding.{stacked}
use Rattle.ap_shared.proofs.NodeLemmas.{derivations_onto}
use Rattle.ap_shared.proofs.nodes.derivation_from.Given as goal

abbrev pub invariant-loop-node : goal.invariant-loop-node
invariant-loop-node l = derivations_onto (map node_by_lines l.nodes.items) (stacked derivation_lines l.stack.items) ≡ derivations (map node_by_lines l.fn.nodes.items)

abbrev pub decreases-loop-node : goal.decreases-loop-node
decreases-loop-node l = vec_len l.nodes
