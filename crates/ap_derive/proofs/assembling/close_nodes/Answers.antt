use Rattle.std.proofs.Common.{◌≡◌, [], ◌∷◌, ◌++◌, ◌∙◌, ap, sym, drop, map, arith, refl, ◌+◌}
use Rattle.std.proofs.lemmas.List.{append-nil, map-append}
use Rattle.ap_machine.specs.Views.{state_in}
use Rattle.ap_shared.specs.FirstNodes.{map_node}
use Rattle.ap_shared.specs.LineNodes.{node_by_lines}
use Rattle.ap_shared.specs.Shared.{shared_at}
use Rattle.ap_shared.proofs.SharingLemmas.{grown_none, grown_on, no_item, nodes_below, nodes_on}
use Rattle.ap_derive.proofs.ClosingLemmas.{item_next}
use Rattle.ap_derive.specs.Closing.{closing_terms}
use Rattle.ap_derive.specs.Nodes.{closed_node, selected_node}
use Rattle.ap_derive.proofs.assembling.close_nodes.Goals as goal

pub loop-node-init : goal.loop-node-init
loop-node-init c = record {
  closing = c.requires;
  grown = grown_none (closing_terms c.args.closing.now);
  below = rw c.new-closed.ensures.items tt;
  nodes = rw c.new-closed.ensures.items refl;
}

pub loop-node-preserved : goal.loop-node-preserved
loop-node-preserved c =
    let s = state_in c.args.store.now in
    let ts = closing_terms c.loop-node.closing in
    let us = closing_terms c.close_node.new.closing in
    let ns = map node_by_lines c.loop-node.closed.items in
    let ms = map node_by_lines c.push.new.self.items in
    let n = node_by_lines c.in_ok-shared.shared in
    let pushed : ms ≡ ns ++ n ∷ [] = ap (map node_by_lines) c.in_ok-push.ensures.items ∙ map-append node_by_lines c.loop-node.closed.items (c.in_ok-shared.shared ∷ []) in
    let top = ap (λ gs. map (closed_node s) (map selected_node gs)) (item_next c.args.nodes.now c.loop-node.node-index c.node-item.result (omega arith) c.node-item.is) in
    record {
      closing = c.in_ok-shared.ensures.closing;
      grown = grown_on (closing_terms c.args.closing.now) ts us c.loop-node.invariant.grown c.in_ok-shared.ensures.grown;
      below = nodes_below ts us ns ms n c.in_ok-shared.ensures.grown c.loop-node.invariant.below pushed c.in_ok-shared.ensures.below;
      nodes = nodes_on ts us ns ms n c.in_ok-shared.ensures.grown c.loop-node.invariant.below pushed
          (closed_node s (selected_node c.node-item.result)) _ (map (closed_node s) (map selected_node (drop (c.loop-node.node-index + 1) c.args.nodes.now))) (map (closed_node s) (map selected_node c.args.nodes.now))
          c.in_ok-shared.ensures.node top c.loop-node.invariant.nodes;
    }

pub returns-clause-nodes : goal.returns-clause-nodes
returns-clause-nodes c =
    let s = state_in c.args.store.now in
    let none = no_item c.args.nodes.now c.loop-node.node-index (omega arith) in
    let found = map (map_node (shared_at (closing_terms c.loop-node.closing))) (map node_by_lines c.loop-node.closed.items) in
    sym (append-nil found) ∙ ap (λ gs. found ++ map (closed_node s) (map selected_node gs)) (sym none) ∙ c.loop-node.invariant.nodes
