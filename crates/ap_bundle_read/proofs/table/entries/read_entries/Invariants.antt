-- The lines that are left, behind those that have been read, are all.
use Rattle.std.proofs.Common.{◌≡◌, ◌-◌, []}
use Rattle.ap_bundle.specs.TableForms.{read_entries}
use Rattle.ap_bundle_read.specs.Outcomes.{place_of}
use Rattle.ap_shared.specs.SharedViews.{shared_terms}
use Rattle.ap_bundle_read.proofs.table.entries.read_entries.Given as goal

abbrev pub invariant-loop : goal.invariant-loop
invariant-loop l = read_entries (l.count - l.counter) (shared_terms l.table) (place_of l.place) ≡ read_entries l.count [] (place_of l.fn.place)
