use Rattle.std.proofs.Common.{◌-◌, ◌+◌, ◌∷◌, [], map, length, arith, sym, ap, ◌∙◌}
use Rattle.std.proofs.lemmas.List.{map-append}
use Rattle.std.proofs.lemmas.Result.{err_from_is_err_and}
use Rattle.ap_bundle.specs.TableForms.{read_cited}
use Rattle.ap_shared.specs.SharedViews.{shared_terms}
use Rattle.ap_bundle_read.specs.CitedNodes.{cited_node}
use Rattle.ap_bundle_read.specs.Outcomes.{place_of}
use Rattle.ap_shared.specs.LineNodes.{node_by_lines}
use Rattle.ap_shared.specs.Shared.{shared_at}
use Rattle.ap_bundle_read.proofs.CitedLemmas.{children_mapped}
use Rattle.ap_bundle_read.proofs.LoopLemmas.{nodes_on, nodes_fail, nodes_done, nodes_unended}
use Rattle.ap_bundle_read.proofs.RepeatLemmas.{fails_on}
use Rattle.ap_bundle_read.proofs.cited_nodes.read_nodes.Goals as goal

pub returns-then-wanted-eq0 : goal.returns-then-wanted-eq0
returns-then-wanted-eq0 c =
    sym c.loop.invariant.read ∙ nodes_done (read_cited (shared_terms c.args.table.now)) (length c.args.place.rest.now - c.loop.counter) c.loop.wanted (map (cited_node (shared_terms c.args.table.now)) c.loop.all.items) (place_of c.loop.place) (omega arith)

pub returns-in_err-node : goal.returns-in_err-node
returns-in_err-node c =
    let p = err_from_is_err_and c.from_residual.result c.from_residual.ensures.1 in
    rw (p.1, p.2) (fails_on c.in_err-node.field-0.0 _ _ (λ w got. sym c.loop.invariant.read ∙ nodes_fail (read_cited (shared_terms c.args.table.now)) (length c.args.place.rest.now - c.loop.counter) (length c.args.place.rest.now - (c.loop.counter + 1)) c.loop.wanted (c.loop.wanted - 1) (map (cited_node (shared_terms c.args.table.now)) c.loop.all.items) (place_of c.loop.place) w (omega arith) (omega arith) got) c.in_err-node.ensures)

pub loop-preserved : goal.loop-preserved
loop-preserved c =
    let items = ap (map (cited_node (shared_terms c.args.table.now))) c.in_ok-push.ensures.items ∙ map-append (cited_node (shared_terms c.args.table.now)) c.loop.all.items (c.in_ok-node.node ∷ []) in
    let next = nodes_on (read_cited (shared_terms c.args.table.now)) (length c.args.place.rest.now - c.loop.counter) (length c.args.place.rest.now - (c.loop.counter + 1)) c.loop.wanted (c.loop.wanted - 1) (c.loop.wanted - 1 + c.children.result) (map (cited_node (shared_terms c.args.table.now)) c.loop.all.items) (place_of c.loop.place) (place_of c.in_ok-node.rest) (cited_node (shared_terms c.args.table.now) c.in_ok-node.node) (omega arith) (omega arith) (ap (λ z. c.loop.wanted - 1 + z) (c.children.ensures.value ∙ sym (children_mapped (shared_at (shared_terms c.args.table.now)) (node_by_lines c.in_ok-node.node)))) c.in_ok-node.ensures in
    record {
      read = rw items (next ∙ c.loop.invariant.read);
      few = omega (arith, c.children.ensures.few);
    }

pub returns-then-wanted-eq0-2 : goal.returns-then-wanted-eq0-2
returns-then-wanted-eq0-2 c =
    sym c.loop.invariant.read ∙ nodes_done (read_cited (shared_terms c.args.table.now)) (length c.args.place.rest.now - c.loop.counter) c.loop.wanted (map (cited_node (shared_terms c.args.table.now)) c.loop.all.items) (place_of c.loop.place) (omega arith)

pub returns : goal.returns
returns c =
    sym c.loop.invariant.read ∙ nodes_unended (read_cited (shared_terms c.args.table.now)) (length c.args.place.rest.now - c.loop.counter) c.loop.wanted (c.loop.wanted - 1) (map (cited_node (shared_terms c.args.table.now)) c.loop.all.items) (place_of c.loop.place) (omega arith) (omega arith)
