-- If those that are left are no names', none is.
use Rattle.std.proofs.Common.{map, drop}
use Rattle.ap_defs.specs.Types.{kind_of}
use Rattle.ap_kinds.specs.Sorts.{KeepSorts}
use Rattle.ap_kinds.proofs.sorts.has_names.Given as goal

abbrev pub invariant-loop-kind : goal.invariant-loop-kind
invariant-loop-kind l = KeepSorts (map kind_of (drop l.kind-index l.kinds)) → KeepSorts (map kind_of l.kinds)
