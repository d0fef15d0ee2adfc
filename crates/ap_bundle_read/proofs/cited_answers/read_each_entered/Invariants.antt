-- What has been read, and what is left, are all.
use Rattle.std.proofs.Common.{◌≡◌, ◌-◌, map}
use Rattle.ap_bundle.specs.Readers.{repeated, with_front}
use Rattle.ap_bundle_read.specs.declared.table.term_lines.Terms.TheVariants as way
use Rattle.ap_shared.specs.SharedViews.{shared_proved}
use Rattle.ap_bundle.specs.Reading.{read_proved}
use Rattle.ap_bundle_read.specs.Tables.{reader_of}
use Rattle.ap_bundle_read.specs.Outcomes.{place_of}
use Rattle.ap_bundle_read.proofs.cited_answers.read_each_entered.Given as goal

abbrev pub invariant-loop : goal.invariant-loop
invariant-loop l = with_front (map shared_proved l.all.items) (repeated (read_proved (reader_of way.InFull)) (l.count - l.counter) (place_of l.place)) ≡ repeated (read_proved (reader_of way.InFull)) l.count (place_of l.fn.place)
