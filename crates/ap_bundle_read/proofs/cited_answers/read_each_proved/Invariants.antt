-- What has been read, and what is left, are all.
use Rattle.std.proofs.Common.{◌≡◌, ◌-◌, map}
use Rattle.ap_bundle.specs.Readers.{repeated, with_front}
use Rattle.ap_bundle.specs.Reading.{read_proved}
use Rattle.ap_bundle.specs.TableForms.{read_cited}
use Rattle.ap_shared.specs.SharedViews.{shared_proved, shared_terms}
use Rattle.ap_bundle_read.specs.Outcomes.{place_of}
use Rattle.ap_bundle_read.proofs.cited_answers.read_each_proved.Given as goal

abbrev pub invariant-loop : goal.invariant-loop
invariant-loop l = with_front (map shared_proved l.all.items) (repeated (read_proved (read_cited (shared_terms l.table.value))) (l.count - l.counter) (place_of l.place)) ≡ repeated (read_proved (read_cited (shared_terms l.table.value))) l.count (place_of l.fn.place)
