-- What has been read, and what is left, are all.
use Rattle.std.proofs.Common.{◌≡◌, ◌-◌}
use Rattle.ap_bundle.specs.Readers.{repeated, with_front}
use Rattle.ap_bundle.specs.Reading.{read_name}
use Rattle.ap_bundle_read.specs.Outcomes.{place_of}
use Rattle.ap_bundle_read.proofs.nodes.read_names.Given as goal

abbrev pub invariant-loop : goal.invariant-loop
invariant-loop l = with_front l.names.items (repeated read_name (l.count - l.counter) (place_of l.place)) ≡ repeated read_name l.count (place_of l.fn.place)
