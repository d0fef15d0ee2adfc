use Rattle.std.proofs.Common.{◌≡◌, List, map, take}
use Rattle.std.specs.BTreeMap.{get}
use Rattle.ap_defs.specs.Canonical.{moved_names}
use Rattle.ap_defs.specs.Permutations.{act_name, inverse}
use Rattle.ap_defs.specs.declared.terms.Swap.{Swap}
use Rattle.ap_values.specs.Flat.{moved_list}
use Rattle.ap_perm.specs.Images.{key_cmp}
use Rattle.ap_values.proofs.FlatLemmas.{IsTold}
use Rattle.ap_values.proofs.flat.origin_table.Given as goal

abbrev pub invariant-loop-m : goal.invariant-loop-m
invariant-loop-m l =
    (p : List Swap) → moved_list p ≡ l.moved → IsTold (inverse p) (map (act_name p) (take l.m-index (moved_names p))) (get key_cmp l.images)
