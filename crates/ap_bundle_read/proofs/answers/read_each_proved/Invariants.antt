-- What has been read, and what is left, are all.
use Rattle.std.proofs.Common.{◌≡◌, ◌-◌, map}
use Rattle.ap_bundle.specs.Readers.{repeated, with_front}
use Rattle.ap_bundle.specs.Bundles.{proved_of}
use Rattle.ap_bundle.specs.Reading.{read_proved}
use Rattle.ap_bundle_read.specs.Tables.{reader_of}
use Rattle.ap_bundle_read.specs.Outcomes.{place_of}
use Rattle.ap_bundle_read.proofs.answers.read_each_proved.Given as goal

abbrev pub invariant-loop : goal.invariant-loop
invariant-loop l = with_front (map proved_of l.all.items) (repeated (read_proved (reader_of l.terms)) (l.count - l.counter) (place_of l.place)) ≡ repeated (read_proved (reader_of l.terms)) l.count (place_of l.fn.place)
