-- A variable occurs in the whole where it occurs in the part in hand or in one that waits; once an unbound one was seen, this is kept of the
-- variable that is sought alone. Where it occurs in what a variable stands for that was gone through, it occurs in a part that is left.
use Rattle.std.proofs.Common.{◌≡◌, ◌+◌, ◌||◌, true}
use Rattle.ap_defs.specs.declared.terms.Var.{Var}
use Rattle.ap_store.specs.Founds.{bare_term, occurs_in}
use Rattle.ap_store.proofs.FollowLemmas.{visits_in}
use Rattle.ap_store.proofs.PassedLemmas.{IsLeftOf}
use Rattle.ap_store.proofs.WaitingLemmas.{occurs_in_any, visits_in_all}
use Rattle.ap_store.proofs.occurrences.occurs_below.Given as goal

abbrev pub invariant-seeking : goal.invariant-seeking
invariant-seeking l = record {
  all : (y : Var) → (l.is_open ≡ true → y ≡ l.x) → (occurs_in l.store y l.here || occurs_in_any l.store y l.waiting.items) ≡ occurs_in l.store y l.fn.first;
  passed : (y : Var) → (l.is_open ≡ true → y ≡ l.x) → IsLeftOf l.store l.passed.marks.items y (bare_term l.here) l.waiting.items;
}

abbrev pub decreases-seeking : goal.decreases-seeking
decreases-seeking l = visits_in l.store (bare_term l.here) + visits_in_all l.store l.waiting.items
