-- What is left, within the parts of the way, is all.
use Rattle.std.proofs.Common.{◌≡◌, ◌≤◌, ◌+◌, ◌*◌, vec_len}
use Rattle.ap_defs.specs.RawTerms.{raw_of}
use Rattle.ap_defs.specs.Terms.{term_of, act_term}
use Rattle.ap_program.specs.CarryingOut.{carried_out}
use Rattle.ap_restrict.specs.Ways.{lent_terms, carried_within}
use Rattle.ap_restrict.proofs.CarryingLemmas.{raw_size, own_size, way_size}
use Rattle.ap_restrict.proofs.carrying.+carrying.Given as goal

abbrev pub decreases-carry_under : goal.decreases-carry_under
decreases-carry_under l = 3 * raw_size (raw_of l.t.now) + 2

abbrev pub decreases-carry_two : goal.decreases-carry_two
decreases-carry_two l = 3 * (raw_size (raw_of l.left.now) + raw_size (raw_of l.right.now)) + 3

abbrev pub decreases-carry_swapped : goal.decreases-carry_swapped
decreases-carry_swapped l = 3 * raw_size (raw_of l.body.now) + 3

abbrev pub decreases-carry_spine : goal.decreases-carry_spine
decreases-carry_spine l = 3 * raw_size (raw_of l.t.now) + 1

abbrev pub decreases-carry_round : goal.decreases-carry_round
decreases-carry_round l = 3 * own_size (raw_of l.part.now)

abbrev pub decreases-carry_within : goal.decreases-carry_within
decreases-carry_within l = 3 * way_size (lent_terms l.parts.items) + 1

abbrev pub invariant-carry_within-loop-part : goal.invariant-carry_within-loop-part
invariant-carry_within-loop-part l = record {
  all : carried_within l.swaps (lent_terms l.parts.items) (term_of l.made) ≡ carried_within l.fn.swaps (lent_terms l.fn.parts.items) (term_of l.fn.last);
  smaller : way_size (lent_terms l.parts.items) ≤ way_size (lent_terms l.fn.parts.items);
}

abbrev pub decreases-carry_within-loop-part : goal.decreases-carry_within-loop-part
decreases-carry_within-loop-part l = vec_len l.parts

abbrev pub invariant-carry_spine-loop-rest : goal.invariant-carry_spine-loop-rest
invariant-carry_spine-loop-rest l = record {
  all : carried_within l.swaps (lent_terms l.way.items) (act_term l.swaps (carried_out (raw_of l.rest))) ≡ act_term l.fn.swaps (carried_out (raw_of l.fn.t));
  parts : way_size (lent_terms l.way.items) + raw_size (raw_of l.rest) ≡ raw_size (raw_of l.fn.t);
}

abbrev pub decreases-carry_spine-loop-rest : goal.decreases-carry_spine-loop-rest
decreases-carry_spine-loop-rest l = raw_size (raw_of l.rest)
