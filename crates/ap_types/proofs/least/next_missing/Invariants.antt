-- All needs are in where those that are left are, and these are no more.
use Rattle.std.proofs.Common.{◌≡◌, ◌≤◌, ℕ, Bool, length}
use Rattle.ap_types.specs.Rounds.{Within, marked}
use Rattle.ap_types.specs.Rules.{all_are_in}
use Rattle.ap_types.proofs.least.next_missing.Given as goal

abbrev pub invariant-loop-base : goal.invariant-loop-base
invariant-loop-base l = record {
  same : (p : ℕ → Bool) → Within (marked l.table) p → all_are_in p l.initial.needs.items ≡ all_are_in p l.needs.items;
  no_more : length l.needs.items ≤ length l.initial.needs.items;
}

abbrev pub decreases-loop-base : goal.decreases-loop-base
decreases-loop-base l = length l.needs.items
