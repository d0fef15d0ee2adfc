-- The type is inhabited where the part in hand and those that wait are.
use Rattle.std.proofs.Common.{◌≡◌, ◌+◌}
use Rattle.ap_defs.specs.Types.{type_of}
use Rattle.ap_defs.proofs.SpineLemmas.{type_size}
use Rattle.ap_types.specs.Inhabited.{inhabited_if}
use Rattle.ap_types.specs.Loading.{lent}
use Rattle.ap_types.specs.Rounds.{marked}
use Rattle.ap_types.proofs.PartTests.{all_left, sum_sizes}
use Rattle.ap_types.proofs.rounds.is_inhabited_by.Given as goal

abbrev pub invariant-parts : goal.invariant-parts
invariant-parts l = all_left type_of (inhabited_if (marked l.table)) l.waiting.items (type_of l.part) ≡ inhabited_if (marked l.table) (type_of l.t)

abbrev pub decreases-parts : goal.decreases-parts
decreases-parts l = sum_sizes type_size (lent type_of l.waiting.items) + type_size (type_of l.part)
