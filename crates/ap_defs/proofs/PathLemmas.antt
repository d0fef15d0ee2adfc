-- Paths that begin with others.
use Rattle.std.proofs.Common.{◌≡◌, ℕ, ◌==◌, ◌&&◌, List, [], ◌∷◌, refl, ap}
use Rattle.std.specs.List.{starts_with}
use Rattle.ap_defs.specs.PathOrder.{has_prefix}

pub starts_prefix : (p q : List ℕ) → starts_with (λ k j. k == j) q p ≡ has_prefix p q
starts_prefix [] q = refl
starts_prefix (k ∷ p) [] = refl
starts_prefix (k ∷ p) (j ∷ q) = ap (λ b. (k == j) && b) (starts_prefix p q)
