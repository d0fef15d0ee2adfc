-- What is left decides.
use Rattle.std.proofs.Common.{◌≡◌, length, reverse}
use Rattle.std.specs.List.{All, sum_by}
use Rattle.ap_judge.specs.Binders.{AreBinders}
use Rattle.ap_judge.specs.Comparisons.{are_alike, mark_of, compared_size}
use Rattle.ap_judge.specs.Stacks.{AreWithin, all_waiting}
use Rattle.ap_judge.specs.Tables.{IsComparedIn}
use Rattle.ap_judge.proofs.equality.are_all_equal.Given as goal

abbrev pub invariant-terms : goal.invariant-terms
invariant-terms l = record {
  all : all_waiting mark_of (are_alike l.answer.conds) l.walk.binders.pairs.items (reverse l.walk.pending.items)
      ≡ all_waiting mark_of (are_alike l.answer.conds) l.fn.walk.binders.pairs.items (reverse l.fn.walk.pending.items);
  within : AreWithin mark_of (length l.walk.binders.pairs.items) (reverse l.walk.pending.items);
  found : AreBinders l.walk.binders;
  of : All (IsComparedIn l.terms) l.walk.pending.items;
}

abbrev pub decreases-terms : goal.decreases-terms
decreases-terms l = sum_by compared_size l.walk.pending.items
