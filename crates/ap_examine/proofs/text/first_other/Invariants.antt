-- The first one of what is left is the first one.
use Rattle.std.proofs.Common.{◌≡◌, ◌+◌, length, map}
use Rattle.ap_defs.specs.Goals.{query_of}
use Rattle.ap_examine.specs.Reports.{first_other}
use Rattle.ap_examine.proofs.text.first_other.Given as goal

abbrev pub invariant-looking : goal.invariant-looking
invariant-looking l = record {
  first : first_other l.number (map query_of l.rest) ≡ first_other 1 (map query_of l.fn.queries);
  small : l.number + length l.rest ≡ 1 + length l.fn.queries;
}

abbrev pub decreases-looking : goal.decreases-looking
decreases-looking l = length l.rest
