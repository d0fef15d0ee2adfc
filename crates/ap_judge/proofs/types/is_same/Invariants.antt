-- What is left of the types decides.
use Rattle.std.proofs.Common.{◌≡◌}
use Rattle.std.specs.List.{list_all, sum_by}
use Rattle.ap_defs.specs.Types.{type_of}
use Rattle.ap_checks.specs.TypeTests.{type_eq}
use Rattle.ap_judge.specs.Wanted.{are_one, pair_size}
use Rattle.ap_judge.proofs.types.is_same.Given as goal

abbrev pub invariant-loop-next : goal.invariant-loop-next
invariant-loop-next l = list_all are_one l.pending.items ≡ type_eq (type_of l.a) (type_of l.b)

abbrev pub decreases-loop-next : goal.decreases-loop-next
decreases-loop-next l = sum_by pair_size l.pending.items
