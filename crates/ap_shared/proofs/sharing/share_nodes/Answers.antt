use Rattle.std.proofs.Common.{◌≡◌, [], ◌∷◌, ◌++◌, ◌∙◌, map, ap, append_assoc}
use Rattle.std.proofs.lemmas.List.{map-append}
use Rattle.ap_defs.specs.Derivations.{derivation_of}
use Rattle.ap_bundle.specs.Nodes.{preorder}
use Rattle.ap_shared.specs.FirstNodes.{first_node, seen}
use Rattle.ap_shared.specs.LineNodes.{node_by_lines}
use Rattle.ap_shared.specs.SharedViews.{shared_terms}
use Rattle.ap_shared.proofs.NodeLemmas.{later, stack_less, stack_on}
use Rattle.ap_shared.proofs.SharingLemmas.{grown_on, nodes_below, nodes_on}
use Rattle.ap_shared.proofs.sharing.share_nodes.Goals as goal

pub loop-next-preserved : goal.loop-next-preserved
loop-next-preserved c =
    let d = derivation_of c.in-Some.next.now in
    let ts = shared_terms c.loop-next.table in
    let us = shared_terms c.share_first.new.table in
    let ns = map node_by_lines c.loop-next.nodes.items in
    let ms = map node_by_lines c.push-in-Some.new.self.items in
    let n = node_by_lines c.in_ok-node.node in
    let pushed : ms ≡ ns ++ n ∷ [] = ap (map node_by_lines) c.in_ok-push-2.ensures.items ∙ map-append node_by_lines c.loop-next.nodes.items (c.in_ok-node.node ∷ []) in
    let part = seen derivation_of c.pop.new.self.items in
    let top = ap (seen derivation_of) c.in-Some.ensures.items ∙ map-append (λ r. derivation_of r.now) c.pop.new.self.items (c.in-Some.next ∷ []) in
    let turn = stack_on (seen derivation_of c.loop-next.pending.items) part (seen derivation_of c.push_children.new.pending.items) d top c.in_ok-push_children.ensures in
    record {
      grown = grown_on (shared_terms c.args.table.now) ts us c.loop-next.invariant.grown c.in_ok-node.ensures.grown;
      below = nodes_below ts us ns ms n c.in_ok-node.ensures.grown c.loop-next.invariant.below pushed c.in_ok-node.ensures.below;
      nodes = nodes_on ts us ns ms n c.in_ok-node.ensures.grown c.loop-next.invariant.below pushed
          (first_node d) (later preorder (seen derivation_of c.loop-next.pending.items)) (later preorder (seen derivation_of c.push_children.new.pending.items)) (preorder (derivation_of c.args.derivation.now))
          c.in_ok-node.ensures.node turn c.loop-next.invariant.nodes;
    }

pub loop-next-smaller : goal.loop-next-smaller
loop-next-smaller c =
    let top = ap (seen derivation_of) c.in-Some.ensures.items ∙ map-append (λ r. derivation_of r.now) c.pop.new.self.items (c.in-Some.next ∷ []) in
    stack_less (seen derivation_of c.loop-next.pending.items) (seen derivation_of c.pop.new.self.items) (seen derivation_of c.push_children.new.pending.items) (derivation_of c.in-Some.next.now) top c.in_ok-push_children.ensures
