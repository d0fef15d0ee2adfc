-- Types for the holes of shapes: what they make of shapes and equations.
use Rattle.std.proofs.Common.{◌≡◌, ◌<◌, ◌≤◌, ◌∙◌, ℕ, List, [], ◌∷◌, ◌++◌, refl, sym, ap, subst, arith}
use Rattle.ap_defs.specs.Types.{NominalType, TypeShape, hole, unit, names, base, pair, list, abs}
use Rattle.ap_defs.specs.Types as types
use Rattle.ap_types.specs.Equations.{ShapeEquation, ◌≐◌, Filling, filled, FillingSolves, IsNameType, GivesNames, IsSolution, bound_of, equations_bound, names_bound}
use Rattle.ap_kinds.specs.Systems.{shape_of_type}

-- a type for each hole
abbrev pub Assign : Type 0
Assign = ℕ → NominalType

abbrev pub filling : Assign → Filling
filling φ x = shape_of_type (φ x)

abbrev pub sort_of : NominalType → ℕ
sort_of (types.names s) = s
sort_of _ = 0

-- the type that a shape becomes
abbrev pub closed : Assign → TypeShape → NominalType
closed φ (hole x) = φ x
closed φ unit = types.unit
closed φ (names s) = types.names s
closed φ (base d) = types.base d
closed φ (pair t u) = types.pair (closed φ t) (closed φ u)
closed φ (list t) = types.list (closed φ t)
closed φ (abs t u) = types.abs (sort_of (closed φ t)) (closed φ u)

abbrev pub IsNamesShape : TypeShape → Type 0
IsNamesShape (names s) = Unit {0}
IsNamesShape _ = ⊥

-- each left part of an abstraction becomes a name type
abbrev pub IsProper : Filling → TypeShape → Type 0
IsProper f (hole x) = Unit {0}
IsProper f unit = Unit {0}
IsProper f (names s) = Unit {0}
IsProper f (base d) = Unit {0}
IsProper f (pair t u) = IsProper f t × IsProper f u
IsProper f (list t) = IsProper f t
IsProper f (abs t u) = IsNamesShape (filled f t) × IsProper f u

abbrev pub AreProper : Filling → List ShapeEquation → Type 0
AreProper f [] = Unit {0}
AreProper f ((t ≐ u) ∷ es) = IsProper f t × IsProper f u × AreProper f es

names_opened : (a : NominalType) → IsNamesShape (shape_of_type a) → shape_of_type a ≡ names (sort_of a)
names_opened (types.names s) h = refl
names_opened _ h = absurd h

left_closes : (φ : Assign) (t : TypeShape) → IsNamesShape (filled (filling φ) t) → filled (filling φ) t ≡ names (sort_of (closed φ t))
left_closes φ (hole x) h = names_opened (φ x) h
left_closes φ (names s) h = refl
left_closes φ _ h = absurd h

-- a proper shape becomes a type
pub closes : (φ : Assign) (t : TypeShape) → IsProper (filling φ) t → filled (filling φ) t ≡ shape_of_type (closed φ t)
closes φ (hole x) h = refl
closes φ unit h = refl
closes φ (names s) h = refl
closes φ (base d) h = refl
closes φ (pair t u) h = let a = closes φ t h.0 in let b = closes φ u h.1 in cc
closes φ (list t) h = ap list (closes φ t h)
closes φ (abs t u) h = let a = left_closes φ t h.0 in let b = closes φ u h.1 in cc

pub closed_opened : (φ : Assign) (a : NominalType) → closed φ (shape_of_type a) ≡ a
closed_opened φ types.unit = refl
closed_opened φ (types.names s) = refl
closed_opened φ (types.base d) = refl
closed_opened φ (types.pair a b) = let p = closed_opened φ a in let q = closed_opened φ b in cc
closed_opened φ (types.list a) = ap types.list (closed_opened φ a)
closed_opened φ (types.abs s a) = ap (types.abs s) (closed_opened φ a)

pub filled_opened : (f : Filling) (a : NominalType) → filled f (shape_of_type a) ≡ shape_of_type a
filled_opened f types.unit = refl
filled_opened f (types.names s) = refl
filled_opened f (types.base d) = refl
filled_opened f (types.pair a b) = let p = filled_opened f a in let q = filled_opened f b in cc
filled_opened f (types.list a) = ap list (filled_opened f a)
filled_opened f (types.abs s a) = ap (abs (names s)) (filled_opened f a)

pub proper_opened : (f : Filling) (a : NominalType) → IsProper f (shape_of_type a)
proper_opened f types.unit = tt
proper_opened f (types.names s) = tt
proper_opened f (types.base d) = tt
proper_opened f (types.pair a b) = (proper_opened f a, proper_opened f b)
proper_opened f (types.list a) = proper_opened f a
proper_opened f (types.abs s a) = (tt, proper_opened f a)

pub bound_opened : (a : NominalType) (k : ℕ) → bound_of (shape_of_type a) ≤ k
bound_opened types.unit k = omega arith
bound_opened (types.names s) k = omega arith
bound_opened (types.base d) k = omega arith
bound_opened (types.pair a b) k = let p = bound_opened a k in let q = bound_opened b k in omega arith
bound_opened (types.list a) k = bound_opened a k
bound_opened (types.abs s a) k = let q = bound_opened a k in omega arith

-- different types are different shapes
abbrev shut : TypeShape → NominalType
shut t = closed (λ x. types.unit) t

pub opened_injective : (a b : NominalType) → shape_of_type a ≡ shape_of_type b → a ≡ b
opened_injective a b e = sym (closed_opened (λ x. types.unit) a) ∙ ap shut e ∙ closed_opened (λ x. types.unit) b

-- Values below a bound.
abbrev pub Agree : ℕ → Assign → Assign → Type 0
Agree k φ ψ = (x : ℕ) → x < k → φ x ≡ ψ x

abbrev pub SameBelow : ℕ → Filling → Filling → Type 0
SameBelow k f g = (x : ℕ) → x < k → f x ≡ g x

pub filled_same : (k : ℕ) (f g : Filling) → SameBelow k f g → (t : TypeShape) → bound_of t ≤ k → filled f t ≡ filled g t
filled_same k f g h (hole x) l = h x (omega arith)
filled_same k f g h unit l = refl
filled_same k f g h (names s) l = refl
filled_same k f g h (base d) l = refl
filled_same k f g h (pair t u) l = let a = filled_same k f g h t (omega arith) in let b = filled_same k f g h u (omega arith) in cc
filled_same k f g h (list t) l = ap list (filled_same k f g h t l)
filled_same k f g h (abs t u) l = let a = filled_same k f g h t (omega arith) in let b = filled_same k f g h u (omega arith) in cc

pub closed_same : (k : ℕ) (φ ψ : Assign) → Agree k φ ψ → (t : TypeShape) → bound_of t ≤ k → closed φ t ≡ closed ψ t
closed_same k φ ψ h (hole x) l = h x (omega arith)
closed_same k φ ψ h unit l = refl
closed_same k φ ψ h (names s) l = refl
closed_same k φ ψ h (base d) l = refl
closed_same k φ ψ h (pair t u) l = let a = closed_same k φ ψ h t (omega arith) in let b = closed_same k φ ψ h u (omega arith) in cc
closed_same k φ ψ h (list t) l = ap types.list (closed_same k φ ψ h t l)
closed_same k φ ψ h (abs t u) l = let a = ap sort_of (closed_same k φ ψ h t (omega arith)) in let b = closed_same k φ ψ h u (omega arith) in cc

solves_same : (k : ℕ) (f g : Filling) → SameBelow k f g → (es : List ShapeEquation) → equations_bound es ≤ k → FillingSolves f es → FillingSolves g es
solves_same k f g h [] l s = tt
solves_same k f g h ((t ≐ u) ∷ es) l s = (
  sym (filled_same k f g h t (omega arith)) ∙ s.0 ∙ filled_same k f g h u (omega arith),
  solves_same k f g h es (omega arith) s.1,
)

names_same : (n k : ℕ) (f g : Filling) → SameBelow k f g → (xs : List ℕ) → names_bound xs ≤ k → GivesNames n f xs → GivesNames n g xs
names_same n k f g h [] l s = tt
names_same n k f g h (x ∷ xs) l s = (subst (IsNameType n) (h x (omega arith)) s.0, names_same n k f g h xs (omega arith) s.1)

pub solution_same : (n k : ℕ) (f g : Filling) → SameBelow k f g → (es : List ShapeEquation) (xs : List ℕ) → equations_bound es ≤ k → names_bound xs ≤ k
    → IsSolution es xs n f → IsSolution es xs n g
solution_same n k f g h es xs l m s = (solves_same k f g h es l s.0, names_same n k f g h xs m s.1)

pub same_filling : (k : ℕ) (φ ψ : Assign) → Agree k φ ψ → SameBelow k (filling φ) (filling ψ)
same_filling k φ ψ h x l = ap shape_of_type (h x l)

pub agree_on : (k m : ℕ) (φ ψ χ : Assign) → k ≤ m → Agree k φ ψ → Agree m ψ χ → Agree k φ χ
agree_on k m φ ψ χ l h j x i = h x i ∙ j x (omega arith)

-- One more equation, one more name.
pub solves_snoc : (f : Filling) (es : List ShapeEquation) (t u : TypeShape) → FillingSolves f (es ++ (t ≐ u) ∷ []) → FillingSolves f es × (filled f t ≡ filled f u)
solves_snoc f [] t u s = (tt, s.0)
solves_snoc f ((v ≐ w) ∷ es) t u s = let r = solves_snoc f es t u s.1 in ((s.0, r.0), r.1)

pub snoc_solves : (f : Filling) (es : List ShapeEquation) (t u : TypeShape) → FillingSolves f es → filled f t ≡ filled f u → FillingSolves f (es ++ (t ≐ u) ∷ [])
snoc_solves f [] t u s e = (e, tt)
snoc_solves f ((v ≐ w) ∷ es) t u s e = (s.0, snoc_solves f es t u s.1 e)

pub names_snoc : (n : ℕ) (f : Filling) (xs : List ℕ) (x : ℕ) → GivesNames n f (xs ++ x ∷ []) → GivesNames n f xs × IsNameType n (f x)
names_snoc n f [] x s = (tt, s.0)
names_snoc n f (y ∷ xs) x s = let r = names_snoc n f xs x s.1 in ((s.0, r.0), r.1)

pub snoc_names : (n : ℕ) (f : Filling) (xs : List ℕ) (x : ℕ) → GivesNames n f xs → IsNameType n (f x) → GivesNames n f (xs ++ x ∷ [])
snoc_names n f [] x s e = (e, tt)
snoc_names n f (y ∷ xs) x s e = (s.0, snoc_names n f xs x s.1 e)

pub proper_snoc : (f : Filling) (es : List ShapeEquation) (t u : TypeShape) → AreProper f es → IsProper f t → IsProper f u → AreProper f (es ++ (t ≐ u) ∷ [])
proper_snoc f [] t u h p q = (p, q, tt)
proper_snoc f ((v ≐ w) ∷ es) t u h p q = (h.0, h.1, proper_snoc f es t u h.2 p q)

pub bound_snoc : (k : ℕ) (es : List ShapeEquation) (t u : TypeShape) → equations_bound es ≤ k → bound_of t ≤ k → bound_of u ≤ k → equations_bound (es ++ (t ≐ u) ∷ []) ≤ k
bound_snoc k [] t u l m o = omega arith
bound_snoc k ((v ≐ w) ∷ es) t u l m o = let r = bound_snoc k es t u (omega arith) m o in omega arith

pub names_bound_snoc : (k : ℕ) (xs : List ℕ) (x : ℕ) → names_bound xs ≤ k → x < k → names_bound (xs ++ x ∷ []) ≤ k
names_bound_snoc k [] x l m = omega arith
names_bound_snoc k (y ∷ xs) x l m = let r = names_bound_snoc k xs x (omega arith) m in omega arith

-- a name type, as a shape and as a type
pub is_name_type : (n : ℕ) (a : NominalType) → IsNameType n (shape_of_type a) → (s : ℕ) × (a ≡ types.names s) × (s < n)
is_name_type n (types.names s) h = (s, refl, h)
is_name_type n _ h = absurd h

pub name_shape : (n : ℕ) (t : TypeShape) → IsNameType n t → IsNamesShape t
name_shape n (names s) h = tt
name_shape n _ h = absurd h
