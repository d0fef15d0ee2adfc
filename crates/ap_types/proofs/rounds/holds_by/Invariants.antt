-- The type holds none where neither the part in hand nor those that wait do.
use Rattle.std.proofs.Common.{◌≡◌, not}
use Rattle.ap_defs.specs.Types.{type_of}
use Rattle.ap_types.specs.Holding.{holds_if}
use Rattle.ap_types.specs.Rounds.{marked}
use Rattle.ap_types.proofs.BarredParts.{bars}
use Rattle.ap_types.proofs.PartTests.{all_left}
use Rattle.ap_types.proofs.rounds.holds_by.Given as goal

abbrev pub invariant-parts : goal.invariant-parts
invariant-parts l = all_left type_of (bars l.sort (marked l.table)) l.waiting.items (type_of l.part) ≡ not (holds_if l.sort (marked l.table) (type_of l.t))
