-- What has been read, and what is left, are all.
use Rattle.std.proofs.Common.{◌≡◌, ◌-◌, map}
use Rattle.ap_bundle.specs.Readers.{repeated, with_front}
use Rattle.ap_defs.specs.Terms.{term_of}
use Rattle.ap_bundle_read.specs.Tables.{reader_of}
use Rattle.ap_bundle_read.specs.Outcomes.{place_of}
use Rattle.ap_bundle_read.proofs.nodes.read_terms.Given as goal

abbrev pub invariant-loop : goal.invariant-loop
invariant-loop l = with_front (map term_of l.all.items) (repeated (reader_of l.terms) (l.count - l.counter) (place_of l.place)) ≡ repeated (reader_of l.terms) l.count (place_of l.fn.place)
