-- Holes that must be name types.
use Rattle.std.proofs.Common.{◌≡◌, ◌<◌, ◌≤◌, ◌+◌, ◌∙◌, ◌↔◌, ◌⊎◌, ℕ, zero, suc, true, false, List, [], ◌∷◌, map, length, refl, sym, ap, inl, inr, subst, arith}
use Rattle.std.specs.Prelude.{slice_index_or, ◌==◌, if◌then◌else◌}
use Rattle.std.proofs.lemmas.Bool.Decides.{eqb_tells}
use Rattle.ap_defs.specs.Types.{TypeShape, hole, unit, names}
use Rattle.ap_types.specs.Equations.{ShapeEquation, Filling, filled, FillingSolves, FilledBy, IsNameType, GivesNames, IsSolution, IsShapeInstance, equations_bound, names_bound}
use Rattle.ap_types.specs.Solving.{shape_at}
use Rattle.ap_types.specs.Assignments.{IsNameOrOpen, AreNames, IsNameOrHole, AreNamesOrHoles, IsUnsolvable, name_equation, name_equations, Narrows}

-- what stands for a hole is filled from its shape
pub fills_at : (g f : Filling) (x y : ℕ) (d : TypeShape) (ts : List TypeShape) → FilledBy g f x ts → y < length ts → f (x + y) ≡ filled g (slice_index_or ts y d)
fills_at g f x y d [] h l = absurd (omega arith)
fills_at g f x zero d (t ∷ ts) h l = let e : x + 0 ≡ x = omega arith in ap f e ∙ h.0
fills_at g f x (suc y) d (t ∷ ts) h l = let e : x + suc y ≡ suc x + y = omega arith in ap f e ∙ fills_at g f (suc x) y d ts h.1 (omega arith)

pub at_any : (ts : List TypeShape) (y : ℕ) (d e : TypeShape) → y < length ts → slice_index_or ts y d ≡ slice_index_or ts y e
at_any [] y d e l = absurd (omega arith)
at_any (t ∷ ts) zero d e l = refl
at_any (t ∷ ts) (suc y) d e l = at_any ts y d e (omega arith)

past_end : (ts : List TypeShape) (y : ℕ) (d : TypeShape) → length ts ≤ y → slice_index_or ts y d ≡ d
past_end [] y d l = refl
past_end (t ∷ ts) zero d l = absurd (omega arith)
past_end (t ∷ ts) (suc y) d l = past_end ts y d (omega arith)

pub fills_from : (g f : Filling) (x : ℕ) (ts : List TypeShape) → ((y : ℕ) (d : TypeShape) → y < length ts → f (x + y) ≡ filled g (slice_index_or ts y d)) → FilledBy g f x ts
fills_from g f x [] h = tt
fills_from g f x (t ∷ ts) h =
    let s : x ≡ x + 0 = omega arith in
    (ap f s ∙ h 0 t (omega arith), fills_from g f (suc x) ts (λ y d l. let m : suc x + y ≡ x + suc y = omega arith in ap f m ∙ h (suc y) d (omega arith)))

-- the instance by a filling
abbrev pub instance_by : Filling → List TypeShape → Filling
instance_by g ts x = filled g (shape_at ts x)

pub instance_fills : (g : Filling) (ts : List TypeShape) → FilledBy g (instance_by g ts) 0 ts
instance_fills g ts =
    fills_from g (instance_by g ts) 0 ts (λ y d l. let m : 0 + y ≡ y = omega arith in ap (instance_by g ts) m ∙ ap (filled g) (at_any ts y (hole y) d l))

-- with one name type
one_name : (t : TypeShape) → IsNameType 1 t → t ≡ names 0
one_name (names s) h = let e : s ≡ 0 = omega arith in ap names e
one_name _ h = absurd h

names_solved_one : (f : Filling) (xs : List ℕ) → GivesNames 1 f xs → FillingSolves f (map name_equation xs)
names_solved_one f [] h = tt
names_solved_one f (x ∷ xs) h = (one_name (f x) h.0, names_solved_one f xs h.1)

pub names_solved : (n : ℕ) (f : Filling) (xs : List ℕ) → GivesNames n f xs → FillingSolves f (name_equations n xs)
names_solved n f xs h =
    elim (eqb_tells n 1) [
      | inl w ↦ rw w.0 (names_solved_one f xs (subst (λ m. GivesNames m f xs) w.1 h))
      | inr w ↦ rw w.0 tt
    ]

pub bound_one : (xs : List ℕ) → equations_bound (map name_equation xs) ≤ names_bound xs
bound_one [] = omega arith
bound_one (x ∷ xs) = let h = bound_one xs in omega arith

pub bound_names : (n : ℕ) (xs : List ℕ) → equations_bound (name_equations n xs) ≤ names_bound xs
bound_names n xs = elim (n == 1) as (λ b. equations_bound (if b then map name_equation xs else []) ≤ names_bound xs) [ true ↦ bound_one xs | false ↦ omega arith ]

-- The solutions are the instances that give the holes in question name types.
pub narrows_most_general : (es : List ShapeEquation) (xs : List ℕ) (n : ℕ) (ts : List TypeShape) → Narrows es xs n ts → (f : Filling) → IsSolution es xs n f ↔ (IsShapeInstance ts f × GivesNames n f xs)
narrows_most_general es xs n ts h f = (
  (λ s. (h.onward f s, s.1)),
  (λ k. ((h.back k.0.0 f k.0.1).0, k.1)),
)

name_open : (n : ℕ) (t : TypeShape) → 0 < n → (n ≡ 1 → filled (λ y. unit) t ≡ names 0) → IsNameOrHole n t → IsNameOrOpen n t
name_open n (names s) l k h = h
name_open n (hole y) l k h =
    elim (eqb_tells n 1) [
      | inl w ↦ let e : ◌≡◌ {A = TypeShape} unit (names 0) = k w.1 in cc
      | inr w ↦ let o = w.1 in two_or_more n l o
    ]
  where
    two_or_more : (m : ℕ) → 0 < m → (m ≡ 1 → ⊥) → 2 ≤ m
    two_or_more zero i j = absurd (omega arith)
    two_or_more (suc zero) i j = absurd (j refl)
    two_or_more (suc (suc m)) i j = omega arith
name_open n _ l k h = absurd h

names_open : (n : ℕ) (ts : List TypeShape) (xs : List ℕ) → 0 < n → (n ≡ 1 → FillingSolves (instance_by (λ y. unit) ts) (map name_equation xs)) → AreNamesOrHoles n ts xs → AreNames n ts xs
names_open n ts [] l k h = tt
names_open n ts (x ∷ xs) l k h = (name_open n (shape_at ts x) l (λ e. (k e).0) h.0, names_open n ts xs l (λ e. (k e).1) h.1)

pub narrows_constrained : (es : List ShapeEquation) (xs : List ℕ) (n : ℕ) (ts : List TypeShape) → Narrows es xs n ts → (n ≡ 0 → xs ≡ []) → AreNamesOrHoles n ts xs → AreNames n ts xs
narrows_constrained es [] n ts h z k = tt
narrows_constrained es (x ∷ xs) n ts h z k =
    names_open n ts (x ∷ xs) (positive n z)
    (λ e. let s = (h.back (λ y. unit) (instance_by (λ y. unit) ts) (instance_fills (λ y. unit) ts)).1 in
    let one : (n == 1) ≡ true = elim (eqb_tells n 1) [ inl w ↦ w.0 | inr w ↦ absurd (w.1 e) ] in
    rw one at s)
    k
  where
    positive : (m : ℕ) → (m ≡ 0 → (x ∷ xs) ≡ []) → 0 < m
    positive zero i = let e : (x ∷ xs) ≡ [] = i refl in cc
    positive (suc m) i = omega arith

name_given : (n : ℕ) (t : TypeShape) → IsNameOrOpen n t → IsNameType n (filled (λ y. names 0) t)
name_given n (names s) h = h
name_given n (hole y) h = omega arith
name_given n _ h = absurd h

names_given : (n : ℕ) (ts : List TypeShape) (xs : List ℕ) → AreNames n ts xs → GivesNames n (instance_by (λ y. names 0) ts) xs
names_given n ts [] h = tt
names_given n ts (x ∷ xs) h = (name_given n (shape_at ts x) h.0, names_given n ts xs h.1)

pub narrows_solvable : (es : List ShapeEquation) (xs : List ℕ) (n : ℕ) (ts : List TypeShape) → Narrows es xs n ts → AreNames n ts xs → (f : Filling) × IsSolution es xs n f
narrows_solvable es xs n ts h k =
    let f = instance_by (λ y. names 0) ts in
    (f, ((h.back (λ y. names 0) f (instance_fills (λ y. names 0) ts)).0, names_given n ts xs k))

name_or_hole : (n : ℕ) (f : Filling) (t : TypeShape) → IsNameType n (filled f t) → IsNameOrHole n t
name_or_hole n f (names s) h = h
name_or_hole n f (hole y) h = tt
name_or_hole n f _ h = absurd h

found_or_hole : (n : ℕ) (g f : Filling) (ts : List TypeShape) (x : ℕ) → FilledBy g f 0 ts → IsNameType n (f x) → IsNameOrHole n (shape_at ts x)
found_or_hole n g f ts x h k =
    elim (below_or_past x (length ts)) [
      | inl l ↦
          let m : 0 + x ≡ x = omega arith in
          name_or_hole n g (shape_at ts x) (subst (IsNameType n) (sym (ap f m) ∙ fills_at g f 0 x (hole x) ts h l) k)
      | inr l ↦ subst (IsNameOrHole n) (sym (past_end ts x (hole x) l)) tt
    ]
  where
    below_or_past : (i j : ℕ) → (i < j) ⊎ (j ≤ i)
    below_or_past i j = grind arith

pub names_or_holes : (n : ℕ) (g f : Filling) (ts : List TypeShape) (xs : List ℕ) → FilledBy g f 0 ts → GivesNames n f xs → AreNamesOrHoles n ts xs
names_or_holes n g f ts [] h k = tt
names_or_holes n g f ts (x ∷ xs) h k = (found_or_hole n g f ts x h k.0, names_or_holes n g f ts xs h k.1)

pub narrows_unsolvable : (es : List ShapeEquation) (xs : List ℕ) (n : ℕ) (ts : List TypeShape) → Narrows es xs n ts → (AreNamesOrHoles n ts xs → ⊥) → IsUnsolvable es xs n
narrows_unsolvable es xs n ts h refused f s = refused (names_or_holes n (h.onward f s).0 f ts xs (h.onward f s).1 s.1)

none_named : (t : TypeShape) → IsNameType 0 t → ⊥
none_named (names s) h = omega arith
none_named _ h = h

pub unsolvable_without : (es : List ShapeEquation) (xs : List ℕ) → 0 < length xs → IsUnsolvable es xs 0
unsolvable_without es [] l f s = omega arith
unsolvable_without es (x ∷ xs) l f s = none_named (f x) s.1.0
