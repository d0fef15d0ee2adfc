-- The nodes that have been read, and those that are left, are all.
use Rattle.std.proofs.Common.{◌≡◌, ◌≤◌, ◌+◌, ◌-◌, map, length}
use Rattle.ap_bundle.specs.Readers.{with_front}
use Rattle.ap_bundle.specs.Reading.{read_nodes}
use Rattle.ap_bundle.specs.TableForms.{read_cited}
use Rattle.ap_shared.specs.SharedViews.{shared_terms}
use Rattle.ap_bundle_read.specs.CitedNodes.{cited_node}
use Rattle.ap_bundle_read.specs.Outcomes.{place_of}
use Rattle.ap_bundle_read.proofs.cited_nodes.read_nodes.Given as goal

abbrev pub invariant-loop : goal.invariant-loop
invariant-loop l = record {
  read : with_front (map (cited_node (shared_terms l.table)) l.all.items) (read_nodes (read_cited (shared_terms l.table)) (l.bound - l.counter) l.wanted (place_of l.place)) ≡ read_nodes (read_cited (shared_terms l.table)) (length l.fn.place.rest.now) 1 (place_of l.fn.place);
  few : l.wanted ≤ 1 + l.counter;
}
