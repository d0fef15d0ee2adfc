-- what was marked is so still
use Rattle.std.proofs.Common.{◌≡◌, ◌-◌, ℕ, suc, true, length}
use Rattle.ap_store.specs.Passed.{is_mark_at}
use Rattle.ap_store.proofs.mentions.make_place.Given as goal

abbrev pub invariant-adding : goal.invariant-adding
invariant-adding l = (i : ℕ) → is_mark_at l.initial.marks.items i ≡ true → is_mark_at l.marks.items i ≡ true

abbrev pub decreases-adding : goal.decreases-adding
decreases-adding l = suc l.place - length l.marks.items
