use Rattle.std.proofs.Common.{◌≡◌, ◌-◌, ℕ, suc, length}
use Rattle.ap_store.specs.Likes.{like_in}
use Rattle.ap_store.proofs.likes.make_place.Given as goal

-- nothing more is kept so far
abbrev pub invariant-adding : goal.invariant-adding
invariant-adding l = (i : ℕ) → like_in l.likes.items i ≡ like_in l.initial.likes.items i

abbrev pub decreases-adding : goal.decreases-adding
decreases-adding l = suc l.place - length l.likes.items
