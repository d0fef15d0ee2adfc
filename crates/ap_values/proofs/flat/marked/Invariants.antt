use Rattle.std.proofs.Common.{◌≡◌, List, map, take}
use Rattle.ap_defs.specs.declared.terms.Swap.{Swap}
use Rattle.ap_values.specs.Differing.{differing_places}
use Rattle.ap_values.specs.Flat.{image_num, kept}
use Rattle.ap_values.proofs.flat.marked.Given as goal

abbrev pub invariant-loop-i : goal.invariant-loop-i
invariant-loop-i l =
    (p q : List Swap) → l.marks ≡ differing_places (map (image_num p) l.names) (map (image_num q) l.names) → l.picked.items ≡ kept p q (take l.i l.names)
