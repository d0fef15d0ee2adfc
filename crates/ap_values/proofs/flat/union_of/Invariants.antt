use Rattle.std.proofs.Common.{◌≡◌, ◌≤◌, ◌+◌, ◌-◌, ◌++◌, List, drop, length}
use Rattle.ap_defs.specs.Canonical.{moved_names}
use Rattle.ap_defs.specs.declared.terms.Swap.{Swap}
use Rattle.ap_values.specs.Flat.{moved_list, united}
use Rattle.ap_values.proofs.flat.union_of.Given as goal

abbrev pub invariant-merging : goal.invariant-merging
invariant-merging l =
    (l.i ≤ length l.left) × (l.j ≤ length l.right)
    × ((p q : List Swap) → moved_list p ≡ l.left → moved_list q ≡ l.right
    → l.names.items ++ united (drop l.i (moved_names p)) (drop l.j (moved_names q)) ≡ united (moved_names p) (moved_names q))

abbrev pub decreases-merging : goal.decreases-merging
decreases-merging l = (length l.left - l.i) + (length l.right - l.j)
