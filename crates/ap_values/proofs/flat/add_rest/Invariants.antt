use Rattle.std.proofs.Common.{◌≡◌, ◌++◌, List, drop}
use Rattle.ap_defs.specs.Canonical.{moved_names}
use Rattle.ap_defs.specs.declared.terms.Swap.{Swap}
use Rattle.ap_values.specs.Flat.{moved_list}
use Rattle.ap_values.proofs.flat.add_rest.Given as goal

abbrev pub invariant-loop-i : goal.invariant-loop-i
invariant-loop-i l =
    (p : List Swap) → moved_list p ≡ l.moved → l.names.items ++ drop l.i (moved_names p) ≡ l.initial.names.items ++ drop l.from (moved_names p)
