-- The nodes so far, and those of the goals that are left, are all.
use Rattle.std.proofs.Common.{◌≡◌, ◌++◌, drop, length, map}
use Rattle.ap_machine.specs.Views.{state_in}
use Rattle.ap_shared.specs.FirstNodes.{map_node}
use Rattle.ap_shared.specs.LineNodes.{node_by_lines}
use Rattle.ap_shared.specs.Shared.{IsGrown, shared_at}
use Rattle.ap_shared.proofs.SharingLemmas.{AreNodesBelow}
use Rattle.ap_derive.specs.Closing.{IsClosing, closing_terms}
use Rattle.ap_derive.specs.Nodes.{closed_node, selected_node}
use Rattle.ap_derive.proofs.assembling.close_nodes.Given as goal

abbrev pub invariant-loop-node : goal.invariant-loop-node
invariant-loop-node l = record {
  closing : IsClosing l.store l.closing;
  grown : IsGrown (closing_terms l.fn.closing) (closing_terms l.closing);
  below : AreNodesBelow (length (closing_terms l.closing)) (map node_by_lines l.closed.items);
  nodes : map (map_node (shared_at (closing_terms l.closing))) (map node_by_lines l.closed.items) ++ map (closed_node (state_in l.store)) (map selected_node (drop l.node-index l.nodes))
      ≡ map (closed_node (state_in l.store)) (map selected_node l.nodes);
}
