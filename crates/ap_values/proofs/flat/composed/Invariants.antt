use Rattle.std.proofs.Common.{◌≡◌, ◌++◌, List, [], map, take}
use Rattle.ap_defs.specs.declared.terms.Swap.{Swap}
use Rattle.ap_values.specs.Flat.{kept, moved_by, moved_list}
use Rattle.ap_values.proofs.flat.composed.Given as goal

abbrev pub invariant-loop-a : goal.invariant-loop-a
invariant-loop-a l =
    (p q : List Swap) → moved_list p ≡ l.first → moved_list q ≡ l.after → l.moved.items ≡ map (moved_by (q ++ p)) (kept (q ++ p) [] (take l.a-index l.names))
