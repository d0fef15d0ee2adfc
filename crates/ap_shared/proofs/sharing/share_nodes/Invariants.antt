-- The nodes so far, and those of the derivations that are left, are all.
use Rattle.std.proofs.Common.{◌≡◌, ◌++◌, length, map}
use Rattle.ap_defs.specs.Derivations.{derivation_of}
use Rattle.ap_bundle.specs.Nodes.{preorder}
use Rattle.ap_shared.specs.FirstNodes.{map_node, seen}
use Rattle.ap_shared.specs.LineNodes.{node_by_lines}
use Rattle.ap_shared.specs.Shared.{IsGrown, shared_at}
use Rattle.ap_shared.specs.SharedViews.{shared_terms}
use Rattle.ap_shared.proofs.NodeLemmas.{later}
use Rattle.ap_shared.proofs.SharingLemmas.{AreNodesBelow}
use Rattle.ap_shared.proofs.sharing.share_nodes.Given as goal

abbrev pub invariant-loop-next : goal.invariant-loop-next
invariant-loop-next l = record {
  grown : IsGrown (shared_terms l.fn.table) (shared_terms l.table);
  below : AreNodesBelow (length (shared_terms l.table)) (map node_by_lines l.nodes.items);
  nodes : map (map_node (shared_at (shared_terms l.table))) (map node_by_lines l.nodes.items) ++ later preorder (seen derivation_of l.pending.items) ≡ preorder (derivation_of l.derivation);
}

abbrev pub decreases-loop-next : goal.decreases-loop-next
decreases-loop-next l = length (later preorder (seen derivation_of l.pending.items))
