use Rattle.std.proofs.Common.{◌≡◌, ℕ, ◌+◌, ◌<◌, ◌≤◌, get_or, length}
use Rattle.ap_index.specs.Places.{bucket}
use Rattle.ap_index.proofs.places.places_of.Given as goal

-- the keys so far stand within the places of their buckets
abbrev pub invariant-placing : goal.invariant-placing
invariant-placing l = record {
  starts : length l.starts.items ≡ length l.keys + 1;
  ends : length l.ends.items ≡ length l.keys + 1;
  within : (j : ℕ) → j < l.i → (get_or l.starts.items (bucket (length l.keys) (get_or l.keys j 0)) 0 ≤ j) × (j < get_or l.ends.items (bucket (length l.keys) (get_or l.keys j 0)) 0);
}
