-- What is left of the term decides.
use Rattle.std.proofs.Common.{◌≡◌}
use Rattle.std.specs.List.{list_all, sum_by}
use Rattle.ap_defs.specs.Freshness.{fresh_under}
use Rattle.ap_judge.specs.Closures.{scoped_term}
use Rattle.ap_judge.specs.Comparisons.{is_fresh_for, size_at}
use Rattle.ap_judge.proofs.freshness.is_fresh_at.Given as goal

abbrev pub invariant-loop-next : goal.invariant-loop-next
invariant-loop-next l = list_all (is_fresh_for l.answer.conds l.a) l.pending.items ≡ fresh_under l.answer.conds l.a (scoped_term l.fn.t)

abbrev pub decreases-loop-next : goal.decreases-loop-next
decreases-loop-next l = sum_by size_at l.pending.items
