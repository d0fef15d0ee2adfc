-- Laws of shapes with holes.
use Rattle.std.proofs.Common.{◌≡◌, ◌<◌, ◌≤◌, ℕ, true, refl, ap, ap₂, inl, inr, arith}
use Rattle.std.specs.Prelude.{◌==◌}
use Rattle.std.proofs.lemmas.Bool.Decides.{eqb_tells}
use Rattle.ap_defs.specs.Types.{TypeShape, hole, unit, names, base, pair, list, abs}
use Rattle.ap_types.specs.Equations.{Filling, filled, bound_of}
use Rattle.ap_types.specs.Solving.{occurs_in_shape}
pub use Rattle.ap_types.specs.Solving.{size}
use Rattle.ap_types.proofs.BooleanLemmas.{or_cases, or_if_left, or_if_right}

pub filled_filled : (f g : Filling) (t : TypeShape) → filled g (filled f t) ≡ filled (λ y. filled g (f y)) t
filled_filled f g (hole x) = refl
filled_filled f g unit = refl
filled_filled f g (names s) = refl
filled_filled f g (base d) = refl
filled_filled f g (pair t u) = ap₂ pair (filled_filled f g t) (filled_filled f g u)
filled_filled f g (list t) = ap list (filled_filled f g t)
filled_filled f g (abs t u) = ap₂ abs (filled_filled f g t) (filled_filled f g u)

-- Fillings that agree on the holes of a shape fill it alike.
pub filled_same : (f g : Filling) (t : TypeShape) → ((y : ℕ) → occurs_in_shape y t ≡ true → f y ≡ g y) → filled f t ≡ filled g t
filled_same f g (hole x) h = h x (same_number x)
  where
    same_number : (n : ℕ) → (n == n) ≡ true
    same_number n = elim (eqb_tells n n) [ inl w ↦ w.0 | inr w ↦ absurd (w.1 refl) ]
filled_same f g unit h = refl
filled_same f g (names s) h = refl
filled_same f g (base d) h = refl
filled_same f g (pair t u) h =
    ap₂ pair (filled_same f g t (λ y e. h y (or_if_left (occurs_in_shape y t) (occurs_in_shape y u) e))) (filled_same f g u (λ y e. h y (or_if_right (occurs_in_shape y t) (occurs_in_shape y u) e)))
filled_same f g (list t) h = ap list (filled_same f g t h)
filled_same f g (abs t u) h =
    ap₂ abs (filled_same f g t (λ y e. h y (or_if_left (occurs_in_shape y t) (occurs_in_shape y u) e))) (filled_same f g u (λ y e. h y (or_if_right (occurs_in_shape y t) (occurs_in_shape y u) e)))

pub filled_itself : (t : TypeShape) → filled hole t ≡ t
filled_itself (hole x) = refl
filled_itself unit = refl
filled_itself (names s) = refl
filled_itself (base d) = refl
filled_itself (pair t u) = ap₂ pair (filled_itself t) (filled_itself u)
filled_itself (list t) = ap list (filled_itself t)
filled_itself (abs t u) = ap₂ abs (filled_itself t) (filled_itself u)

pub number_same : (x y : ℕ) → (x == y) ≡ true → x ≡ y
number_same x y e = elim (eqb_tells x y) [ inl w ↦ w.1 | inr w ↦ cc ]

pub number_itself : (x : ℕ) → (x == x) ≡ true
number_itself x = elim (eqb_tells x x) [ inl w ↦ w.0 | inr w ↦ absurd (w.1 refl) ]

pub occurs_bound : (x : ℕ) (t : TypeShape) → occurs_in_shape x t ≡ true → x < bound_of t
occurs_bound x (hole y) e = let s = number_same x y e in omega arith
occurs_bound x unit e = cc
occurs_bound x (names s) e = cc
occurs_bound x (base d) e = cc
occurs_bound x (pair t u) e = elim (or_cases (occurs_in_shape x t) (occurs_in_shape x u) e) [ inl i ↦ let l = occurs_bound x t i in omega arith | inr i ↦ let l = occurs_bound x u i in omega arith ]
occurs_bound x (list t) e = occurs_bound x t e
occurs_bound x (abs t u) e = elim (or_cases (occurs_in_shape x t) (occurs_in_shape x u) e) [ inl i ↦ let l = occurs_bound x t i in omega arith | inr i ↦ let l = occurs_bound x u i in omega arith ]

-- what stands for a hole is no larger than the shape that has it
pub size_occurs : (f : Filling) (x : ℕ) (t : TypeShape) → occurs_in_shape x t ≡ true → size (f x) ≤ size (filled f t)
size_occurs f x (hole y) e = let s = ap (λ z. size (f z)) (number_same x y e) in omega arith
size_occurs f x unit e = cc
size_occurs f x (names s) e = cc
size_occurs f x (base d) e = cc
size_occurs f x (pair t u) e = elim (or_cases (occurs_in_shape x t) (occurs_in_shape x u) e) [ inl i ↦ let l = size_occurs f x t i in omega arith | inr i ↦ let l = size_occurs f x u i in omega arith ]
size_occurs f x (list t) e = let l = size_occurs f x t e in omega arith
size_occurs f x (abs t u) e = elim (or_cases (occurs_in_shape x t) (occurs_in_shape x u) e) [ inl i ↦ let l = size_occurs f x t i in omega arith | inr i ↦ let l = size_occurs f x u i in omega arith ]

-- Fillings that agree on the holes below a bound fill alike what has no others.
pub filled_below : (f g : Filling) (t : TypeShape) (n : ℕ) → bound_of t ≤ n → ((x : ℕ) → x < n → g x ≡ f x) → filled g t ≡ filled f t
filled_below f g t n l h = filled_same g f t (λ y o. let m = occurs_bound y t o in h y (omega arith))
