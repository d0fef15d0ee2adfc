use Rattle.std.proofs.Common.{◌≡◌, List, map, take}
use Rattle.ap_defs.specs.declared.terms.Swap.{Swap}
use Rattle.ap_values.specs.Flat.{image_num, moved_list}
use Rattle.ap_values.proofs.flat.images_at.Given as goal

abbrev pub invariant-loop-a : goal.invariant-loop-a
invariant-loop-a l = (p : List Swap) → moved_list p ≡ l.moved → l.nums.items ≡ map (image_num p) (take l.a-index l.names)
