-- A test whether kids are ascending choices that leave out only what has no outputs.
use Rattle.std.specs.Prelude.{ℕ, zero, suc, Bool, true, false, ◌==◌, ◌&&◌, if◌then◌else◌, List, [], ◌∷◌, ◌++◌}
use Rattle.ap_paths.specs.Trees.{Outputs}

abbrev pub is_none : {X : Type 0} → List X → Bool
is_none [] = true
is_none (x ∷ xs) = false

-- of n choices of p from i on, each is the next of the kids or has no outputs, and no kid is left
abbrev pub covers : Outputs → List ℕ → ℕ → ℕ → List ℕ → Bool
covers at p i zero ks = is_none ks
covers at p i (suc n) [] = is_none (at (p ++ i ∷ [])) && covers at p (suc i) n []
covers at p i (suc n) (k ∷ ks) = if k == i then covers at p (suc i) n ks else is_none (at (p ++ i ∷ [])) && covers at p (suc i) n (k ∷ ks)

-- the list begins with k
abbrev pub starts : ℕ → List ℕ → Bool
starts k [] = false
starts k (j ∷ js) = j == k
