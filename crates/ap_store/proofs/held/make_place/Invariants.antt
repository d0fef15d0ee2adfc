use Rattle.std.proofs.Common.{◌≡◌, ◌≤◌, ◌-◌, ℕ, suc, length}
use Rattle.ap_store.specs.Slots.{held_in}
use Rattle.ap_store.proofs.held.make_place.Given as goal

-- nothing more is held so far
abbrev pub invariant-adding : goal.invariant-adding
invariant-adding l = record {
  same : (i : ℕ) → held_in l.held.items i ≡ held_in l.initial.held.items i;
  longer : length l.initial.held.items ≤ length l.held.items;
}

abbrev pub decreases-adding : goal.decreases-adding
decreases-adding l = suc l.place - length l.held.items
