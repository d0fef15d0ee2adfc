-- What has been read, and what is left, are all.
use Rattle.std.proofs.Common.{◌≡◌, ◌-◌, map}
use Rattle.ap_bundle.specs.Readers.{repeated, with_front}
use Rattle.ap_bundle.specs.TableForms.{read_cited}
use Rattle.ap_shared.specs.Shared.{shared_at}
use Rattle.ap_shared.specs.SharedViews.{shared_terms}
use Rattle.ap_bundle_read.specs.Outcomes.{place_of}
use Rattle.ap_bundle_read.proofs.cited_nodes.read_lines.Given as goal

abbrev pub invariant-loop : goal.invariant-loop
invariant-loop l = with_front (map (shared_at (shared_terms l.table)) l.all.items) (repeated (read_cited (shared_terms l.table)) (l.count - l.counter) (place_of l.place)) ≡ repeated (read_cited (shared_terms l.table)) l.count (place_of l.fn.place)
