-- Where the keys of a list stand, bucket by bucket.
use Rattle.std.specs.Prelude.{◌+◌, ◌%◌, ◌<◌, ◌≤◌, ◌==◌, if◌then◌else◌, ℕ, List, length, slice_index}

-- the bucket of a key, of one for the wild key and n others
abbrev pub bucket : ℕ → ℕ → ℕ
bucket n key = if key == 0 then 0 else 1 + key % n

-- each key stands from where its bucket starts on, and before that ends
abbrev pub AreKeysWithin : List ℕ → List ℕ → List ℕ → Type 0
AreKeysWithin keys starts ends =
    (i : ℕ) → i < length keys →
    (slice_index starts (bucket (length keys) (slice_index keys i)) ≤ i) × (i < slice_index ends (bucket (length keys) (slice_index keys i)))
