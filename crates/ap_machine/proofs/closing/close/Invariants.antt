use Rattle.std.proofs.Common.{◌≡◌, ◌+◌}
use Rattle.ap_defs.specs.Canonical.{canonical_term}
use Rattle.ap_store.specs.Views.{meaning_in}
use Rattle.ap_machine.specs.Closed.{closed_part, closed_within, part_work, rounds_work}
use Rattle.ap_machine.proofs.closing.close.Given as goal

-- the part, within what stands round it, is all
abbrev pub invariant-closing : goal.invariant-closing
invariant-closing l = closed_within l.store l.rounds.items (closed_part l.store l.part) ≡ canonical_term (meaning_in l.store l.fn.first)

abbrev pub decreases-closing : goal.decreases-closing
decreases-closing l = rounds_work l.store l.rounds.items + part_work l.store l.part
