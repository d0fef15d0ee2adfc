-- Which keys agree with a wanted one, by the plain words of lists.
use Rattle.std.specs.Prelude.{ℕ, Bool, List, ◌==◌, ◌||◌, if◌then◌else◌, map}

-- the key 0 is wild: it agrees with each
abbrev pub key_agrees : ℕ → ℕ → Bool
key_agrees key k = (k == key) || (k == 0)

-- for each key 1 where it agrees with the wanted one, else 0
abbrev pub matching_keys : ℕ → List ℕ → List ℕ
matching_keys key keys = map (λ k. if key_agrees key k then 1 else 0) keys
