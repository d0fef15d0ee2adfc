use Rattle.std.proofs.Common.{◌≡◌, false, take}
use Rattle.ap_paths.specs.Entries.{entries_of}
use Rattle.ap_paths.specs.History.{has_stop}
use Rattle.ap_steal.proofs.run.stands.Given as goal

abbrev pub invariant-loop-entry : goal.invariant-loop-entry
invariant-loop-entry l = has_stop (entries_of (take l.entry-index l.history)) ≡ false
