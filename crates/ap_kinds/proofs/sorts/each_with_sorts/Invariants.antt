-- The terms so far are sorted.
use Rattle.std.proofs.Common.{◌≡◌, map}
use Rattle.ap_defs.specs.RawTerms.{raw_of}
use Rattle.ap_defs.specs.Types.{kind_of}
use Rattle.ap_kinds.specs.Sorts.{terms_with_sorts}
use Rattle.ap_kinds.proofs.sorts.each_with_sorts.Given as goal

abbrev pub invariant-loop-t : goal.invariant-loop-t
invariant-loop-t l = map raw_of l.sorted.items ≡ terms_with_sorts (map kind_of l.kinds) (map raw_of l.yielded)
