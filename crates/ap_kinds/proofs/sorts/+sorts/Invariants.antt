-- What is above a part, and the part with its names sorted, are the whole sorted.
use Rattle.std.proofs.Common.{◌≡◌, ◌≤◌, ◌+◌, ◌*◌, map}
use Rattle.ap_defs.specs.RawTerms.{raw_of}
use Rattle.ap_defs.specs.Types.{kind_of}
use Rattle.ap_kinds.specs.Sorts.{with_sorts}
use Rattle.ap_spines.specs.Turned.{turned_back, part_count}
use Rattle.ap_kinds.proofs.sorts.+sorts.Given as goal

abbrev pub decreases-go_down : goal.decreases-go_down
decreases-go_down l = 2 * part_count (raw_of l.t.now)

abbrev pub decreases-sort_term : goal.decreases-sort_term
decreases-sort_term l = 2 * part_count (raw_of l.t.now) + 1

abbrev pub invariant-sort_term-down : goal.invariant-sort_term-down
invariant-sort_term-down l = record {
  all : turned_back (raw_of l.above) (with_sorts (map kind_of l.kinds) (raw_of l.t)) ≡ with_sorts (map kind_of l.fn.kinds) (raw_of l.fn.t);
  smaller : part_count (raw_of l.t) ≤ part_count (raw_of l.fn.t);
}

abbrev pub decreases-sort_term-down : goal.decreases-sort_term-down
decreases-sort_term-down l = part_count (raw_of l.t)

abbrev pub invariant-sort_term-up : goal.invariant-sort_term-up
invariant-sort_term-up l = turned_back (raw_of l.above) (raw_of l.t) ≡ with_sorts (map kind_of l.fn.kinds) (raw_of l.fn.t)

abbrev pub decreases-sort_term-up : goal.decreases-sort_term-up
decreases-sort_term-up l = part_count (raw_of l.above)
