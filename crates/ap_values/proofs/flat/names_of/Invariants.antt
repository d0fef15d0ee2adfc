use Rattle.std.proofs.Common.{◌≡◌, List, take}
use Rattle.ap_defs.specs.Canonical.{moved_names}
use Rattle.ap_defs.specs.declared.terms.Swap.{Swap}
use Rattle.ap_values.specs.Flat.{moved_list}
use Rattle.ap_values.proofs.flat.names_of.Given as goal

abbrev pub invariant-loop-m : goal.invariant-loop-m
invariant-loop-m l = (p : List Swap) → moved_list p ≡ l.moved → l.names.items ≡ take l.m-index (moved_names p)
