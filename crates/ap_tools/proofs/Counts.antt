-- Sums over the views.
use Rattle.std.proofs.Common.{◌≡◌, ◌≢◌, ℕ, zero, suc, ◌+◌, ◌<◌, ◌≤◌, ◌⊎◌, List, [], ◌∷◌, ◌++◌, set, sym, refl, ap, inl, inr, ⊎_elim, arith}
use mathlib.Core.Option.{some, some-injective, some-ne-none}
use lib.ListN.{get_elem?}
use Rattle.ap_tools.specs.declared.locked.view.View.{View}
use Rattle.ap_tools.specs.Turns.{total_of_seats}

pub total_set : (f : View → ℕ) (views : List View) (port : ℕ) (v w : View) → get_elem? views port ≡ some v → total_of_seats f (set views port w) + f v ≡ total_of_seats f views + f w
total_set f [] port v w at = absurd (some-ne-none v (sym at))
total_set f (x ∷ xs) zero v w at = let e : f x ≡ f v = ap f (some-injective x v at) in omega arith
total_set f (x ∷ xs) (suc port) v w at = omega (arith, total_set f xs port v w at)

pub total_snoc : (f : View → ℕ) (views : List View) (w : View) → total_of_seats f (views ++ w ∷ []) ≡ total_of_seats f views + f w
total_snoc f [] w = omega arith
total_snoc f (x ∷ xs) w = omega (arith, total_snoc f xs w)

pub total_at : (f : View → ℕ) (views : List View) (port : ℕ) (v : View) → get_elem? views port ≡ some v → f v ≤ total_of_seats f views
total_at f [] port v at = absurd (some-ne-none v (sym at))
total_at f (x ∷ xs) zero v at = let e : f x ≡ f v = ap f (some-injective x v at) in omega arith
total_at f (x ∷ xs) (suc port) v at = omega (arith, total_at f xs port v at)

pub total_two : (f : View → ℕ) (views : List View) (i j : ℕ) (v u : View) → get_elem? views i ≡ some v → get_elem? views j ≡ some u → j ≢ i → f v + f u ≤ total_of_seats f views
total_two f [] i j v u at at' apart = absurd (some-ne-none v (sym at))
total_two f (x ∷ xs) zero zero v u at at' apart = absurd (apart refl)
total_two f (x ∷ xs) zero (suc j) v u at at' apart = let e : f x ≡ f v = ap f (some-injective x v at) in let r = total_at f xs j u at' in omega arith
total_two f (x ∷ xs) (suc i) zero v u at at' apart = let e : f x ≡ f u = ap f (some-injective x u at') in let r = total_at f xs i v at in omega arith
total_two f (x ∷ xs) (suc i) (suc j) v u at at' apart = let r = total_two f xs i j v u at at' (λ e. apart (ap suc e)) in omega arith

pub total_le : (f g : View → ℕ) (views : List View) → ((j : ℕ) (u : View) → get_elem? views j ≡ some u → f u ≤ g u) → total_of_seats f views ≤ total_of_seats g views
total_le f g [] le = omega arith
total_le f g (x ∷ xs) le = let a = le 0 x refl in let b = total_le f g xs (λ j u at. le (suc j) u at) in omega arith

pub total_zero : (f : View → ℕ) (views : List View) → ((j : ℕ) (u : View) → get_elem? views j ≡ some u → f u ≡ 0) → total_of_seats f views ≡ 0
total_zero f [] none = refl
total_zero f (x ∷ xs) none = let a = none 0 x refl in let b = total_zero f xs (λ j u at. none (suc j) u at) in omega arith

pub zero_or : (n : ℕ) → (n ≡ 0) ⊎ (0 < n)
zero_or zero = inl refl
zero_or (suc n) = inr (omega arith)

abbrev Somewhere : (View → ℕ) → List View → Type 0
Somewhere f views = (j : ℕ) × (u : View) × (get_elem? views j ≡ some u) × (0 < f u)

further : (f : View → ℕ) (x : View) (xs : List View) → Somewhere f xs → Somewhere f (x ∷ xs)
further f x xs s = (suc s.0, s.1, s.2, s.3)

pub total_some : (f : View → ℕ) (views : List View) → 0 < total_of_seats f views → (j : ℕ) × (u : View) × (get_elem? views j ≡ some u) × (0 < f u)
total_some f [] h = absurd (omega arith)
total_some f (x ∷ xs) h =
    ⊎_elim (λ (e : f x ≡ 0). further f x xs (total_some f xs (omega arith))) (λ (l : 0 < f x). (0, x, refl, l)) (zero_or (f x))
