-- Lists of what has a path: those that begin with a path.
use Rattle.std.specs.Prelude.{◌≡◌, ℕ, true, List, [], ◌∷◌, filter}
use Rattle.ap_defs.specs.PathOrder.{has_prefix}

-- each path begins with p
abbrev pub AllBegin : {A : Type 0} → (A → List ℕ) → List ℕ → List A → Type 0
AllBegin path p [] = Unit {0}
AllBegin path p (o ∷ os) = (has_prefix p (path o) ≡ true) × AllBegin path p os

-- those whose path begins with p
abbrev pub beginning : {A : Type 0} → (A → List ℕ) → List ℕ → List A → List A
beginning path p os = filter (λ o. has_prefix p (path o)) os
