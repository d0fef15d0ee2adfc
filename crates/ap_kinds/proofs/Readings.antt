-- Kinds that are read off the most general shapes.
use Rattle.std.proofs.Common.{◌≡◌, ◌<◌, ◌≤◌, ◌+◌, ◌∙◌, ◌⊎◌, inl, inr, ℕ, zero, suc, List, [], ◌∷◌, true, length, refl, sym, ap, subst, arith}
use Rattle.std.specs.Prelude.{nat_lt, slice_index_or}
use Rattle.std.proofs.lemmas.Bool.Decides.{nat_tests}
use Rattle.std.proofs.lemmas.Bool.{and_from, and_parts}
use Rattle.ap_defs.specs.Types.{NominalType, TypeShape, hole, unit, names, base, pair, list, abs}
use Rattle.ap_defs.specs.Types as types
use Rattle.ap_types.specs.Equations.{ShapeEquation, ◌≐◌, Filling, filled, FillingSolves, IsNameType, GivesNames, FilledBy, bound_of, hole_count}
use Rattle.ap_types.specs.Solving.{shape_at}
use Rattle.ap_types.specs.Triangular.{Fits}
use Rattle.ap_types.specs.Assignments.{AreNames, IsNameOrOpen}
use Rattle.ap_types.proofs.NameLemmas.{fills_at}
use Rattle.ap_types.proofs.NameLemmas.{instance_by, instance_fills}
use Rattle.ap_kinds.specs.ItemKinds.{IsDeclaredType}
use Rattle.ap_kinds.specs.Systems.{EquationSystem, shape_of_type}
use Rattle.ap_kinds.specs.Reading.{is_declared, is_sort, is_closed, sort_in_shape, read_type, IsSystemSolved}
use Rattle.ap_kinds.proofs.Assignments.{Assign, sort_of, filling, closed, IsProper, AreProper, IsNamesShape, closes, filled_same, solution_same}
use Rattle.ap_kinds.proofs.TakenEquations.{IsProperTable}
use Rattle.ap_kinds.proofs.Gathers.{Meets, IsProperSystem}

-- Proper parts of shapes: an abstraction over what is no name type is replaced.
abbrev tidy_abs : TypeShape → TypeShape → TypeShape
tidy_abs (names s) u = abs (names s) u
tidy_abs _ u = unit

abbrev tidy : TypeShape → TypeShape
tidy (hole x) = hole x
tidy unit = unit
tidy (names s) = names s
tidy (base d) = base d
tidy (pair t u) = pair (tidy t) (tidy u)
tidy (list t) = list (tidy t)
tidy (abs t u) = tidy_abs t (tidy u)

abbrev tidied : Filling → Filling
tidied f x = tidy (f x)

tidy_left : (f : Filling) (t : TypeShape) (u v : TypeShape) → IsNamesShape (filled f t) → u ≡ v → abs (filled (tidied f) t) u ≡ tidy_abs (filled f t) v
tidy_left f (hole x) u v h e = of_shape (f x) h
  where
    of_shape : (t : TypeShape) → IsNamesShape t → abs (tidy t) u ≡ tidy_abs t v
    of_shape (names s) h' = ap (abs (names s)) e
    of_shape _ h' = absurd h'
tidy_left f (names s) u v h e = ap (abs (names s)) e
tidy_left f _ u v h e = absurd h

tidy_filled : (f : Filling) (t : TypeShape) → IsProper f t → filled (tidied f) t ≡ tidy (filled f t)
tidy_filled f (hole x) h = refl
tidy_filled f unit h = refl
tidy_filled f (names s) h = refl
tidy_filled f (base d) h = refl
tidy_filled f (pair t u) h = let a = tidy_filled f t h.0 in let b = tidy_filled f u h.1 in cc
tidy_filled f (list t) h = ap list (tidy_filled f t h)
tidy_filled f (abs t u) h = tidy_left f t (filled (tidied f) u) (tidy (filled f u)) h.0 (tidy_filled f u h.1)

tidy_solves : (f : Filling) (es : List ShapeEquation) → AreProper f es → FillingSolves f es → FillingSolves (tidied f) es
tidy_solves f [] p s = tt
tidy_solves f ((t ≐ u) ∷ es) p s = (tidy_filled f t p.0 ∙ ap tidy s.0 ∙ sym (tidy_filled f u p.1), tidy_solves f es p.2 s.1)

tidy_fits : (f : Filling) (ts : List TypeShape) → IsProperTable f ts → Fits f ts → Fits (tidied f) ts
tidy_fits f ts p k x = ap tidy (k x) ∙ sym (tidy_filled f (shape_at ts x) (p x))

fits_as : (f g : Filling) (ts : List TypeShape) → ((x : ℕ) → f x ≡ g x) → Fits f ts → Fits g ts
fits_as f g ts e k x = sym (e x) ∙ k x ∙ filled_same (bound_of (shape_at ts x)) f g (λ y l. e y) (shape_at ts x) (omega arith)

tidy_name : (n : ℕ) (t : TypeShape) → IsNameType n t → IsNameType n (tidy t)
tidy_name n (names s) h = h
tidy_name n _ h = absurd h

tidy_names : (n : ℕ) (f : Filling) (xs : List ℕ) → GivesNames n f xs → GivesNames n (tidied f) xs
tidy_names n f [] g = tt
tidy_names n f (x ∷ xs) g = (tidy_name n (f x) g.0, tidy_names n f xs g.1)

tidy_proper : (g h : Filling) (t : TypeShape) → tidy (filled g t) ≡ filled h t → IsProper g t
tidy_proper g h (hole x) e = tt
tidy_proper g h unit e = tt
tidy_proper g h (names s) e = tt
tidy_proper g h (base d) e = tt
tidy_proper g h (pair t u) e =
    let d : ◌≡◌ {A = TypeShape} (pair (tidy (filled g t)) (tidy (filled g u))) (pair (filled h t) (filled h u)) = e in
    (tidy_proper g h t cc, tidy_proper g h u cc)
tidy_proper g h (list t) e =
    let d : ◌≡◌ {A = TypeShape} (list (tidy (filled g t))) (list (filled h t)) = e in
    tidy_proper g h t cc
tidy_proper g h (abs t u) e =
    let r = left (filled g t) (tidy (filled g u)) (filled h t) (filled h u) e in
    (r.0, tidy_proper g h u r.1)
  where
    left : (l v k w : TypeShape) → tidy_abs l v ≡ abs k w → IsNamesShape l × (v ≡ w)
    left (names s) v k w d = (tt, (let c : ◌≡◌ {A = TypeShape} (abs (names s) v) (abs k w) = d in cc))
    left (hole y) v k w d = let c : ◌≡◌ {A = TypeShape} unit (abs k w) = d in cc
    left unit v k w d = let c : ◌≡◌ {A = TypeShape} unit (abs k w) = d in cc
    left (base y) v k w d = let c : ◌≡◌ {A = TypeShape} unit (abs k w) = d in cc
    left (pair y z) v k w d = let c : ◌≡◌ {A = TypeShape} unit (abs k w) = d in cc
    left (list y) v k w d = let c : ◌≡◌ {A = TypeShape} unit (abs k w) = d in cc
    left (abs y z) v k w d = let c : ◌≡◌ {A = TypeShape} unit (abs k w) = d in cc

-- a shape of a hole, by a filling of which the shapes have an instance
pub instance_at : (g f : Filling) (ts : List TypeShape) (x : ℕ) → FilledBy g f 0 ts → x < length ts → f x ≡ filled g (shape_at ts x)
instance_at g f ts x h l = let z : 0 + x ≡ x = omega arith in sym (ap f z) ∙ fills_at g f 0 x (hole x) ts h l

pub past_end : (ts : List TypeShape) (y : ℕ) (d : TypeShape) → length ts ≤ y → slice_index_or ts y d ≡ d
past_end [] y d l = refl
past_end (t ∷ ts) zero d l = absurd (omega arith)
past_end (t ∷ ts) (suc y) d l = past_end ts y d (omega arith)

pub below_or_past : (i j : ℕ) → (i < j) ⊎ (j ≤ i)
below_or_past i j = grind arith

proper_past : (g : Filling) (ts : List TypeShape) (x : ℕ) → length ts ≤ x → IsProper g (shape_at ts x)
proper_past g ts x l = subst (IsProper g) (sym (past_end ts x (hole x) l)) tt

-- with a filling that solves, each shape is proper
pub proper_at : (n : ℕ) (s : EquationSystem) (ts : List TypeShape) → IsSystemSolved n s ts → ((f : Filling) → GivesNames n f s.names → IsProperSystem f s)
    → (g : Filling) → GivesNames n (instance_by g ts) s.names → (x : ℕ) → IsProper g (shape_at ts x)
proper_at n s ts h proper g named x =
    elim (below_or_past x (length ts)) [
      | inl l ↦
          let f = instance_by g ts in
          let sol = (h.most_general f).1 ((g, instance_fills g ts), named) in
          let tidy_sol = (h.most_general (tidied f)).0 ((tidy_fits f s.table (proper f named).0 sol.0.0, tidy_solves f s.equations (proper f named).1 sol.0.1), tidy_names n f s.names named) in
          tidy_proper g tidy_sol.0.0 (shape_at ts x) (instance_at tidy_sol.0.0 (tidied f) ts x tidy_sol.0.1 l)
      | inr l ↦ proper_past g ts x l
    ]

-- The types by a choice for the holes that are left.
abbrev pub result_by : Assign → List TypeShape → Assign
result_by γ ts x = closed γ (shape_at ts x)

-- where two name types are declared, the choice is of name types
abbrev pub IsChoice : ℕ → Assign → Type 0
IsChoice n γ = 2 ≤ n → (y : ℕ) → (k : ℕ) × (γ y ≡ types.names k) × (k < n)

chosen_name : (n : ℕ) (γ : Assign) (t : TypeShape) → IsChoice n γ → IsNameOrOpen n t → IsNameType n (filled (filling γ) t)
chosen_name n γ (names s) c h = h
chosen_name n γ (hole y) c h = let k = c h y in subst (λ a. IsNameType n (shape_of_type a)) (sym k.1) k.2
chosen_name n γ _ c h = absurd h

chosen_names : (n : ℕ) (γ : Assign) (ts : List TypeShape) (xs : List ℕ) → IsChoice n γ → AreNames n ts xs → GivesNames n (instance_by (filling γ) ts) xs
chosen_names n γ ts [] c h = tt
chosen_names n γ ts (x ∷ xs) c h = (chosen_name n γ (shape_at ts x) c h.0, chosen_names n γ ts xs c h.1)

pub proper_by : (n : ℕ) (s : EquationSystem) (ts : List TypeShape) → IsSystemSolved n s ts → ((f : Filling) → GivesNames n f s.names → IsProperSystem f s)
    → (γ : Assign) → IsChoice n γ → (x : ℕ) → IsProper (filling γ) (shape_at ts x)
proper_by n s ts h proper γ c x = proper_at n s ts h proper (filling γ) (chosen_names n γ ts s.names c h.constrained) x

pub result_meets : (n : ℕ) (s : EquationSystem) (ts : List TypeShape) → IsSystemSolved n s ts → ((f : Filling) → GivesNames n f s.names → IsProperSystem f s)
    → (γ : Assign) → IsChoice n γ → Meets n (result_by γ ts) s
result_meets n s ts h proper γ c =
    let g = filling γ in
    let f = instance_by g ts in
    let named = chosen_names n γ ts s.names c h.constrained in
    let sol = (h.most_general f).1 ((g, instance_fills g ts), named) in
    let k = hole_count s.equations s.names in
    let same : (x : ℕ) → f x ≡ filling (result_by γ ts) x = λ x. closes γ (shape_at ts x) (proper_at n s ts h proper g named x) in
    let r = solution_same n k f (filling (result_by γ ts)) (λ x l. same x) s.equations s.names (omega arith) (omega arith) (sol.0.1, sol.1) in
    ((fits_as f (filling (result_by γ ts)) s.table same sol.0.0, r.0), r.1)

-- Declared types.
below_is : (i j : ℕ) → i < j → nat_lt i j ≡ true
below_is i j l = grind (arith, nat_tests)

is_below : (i j : ℕ) → nat_lt i j ≡ true → i < j
is_below i j e = grind (arith, nat_tests)

opened_declared : (n m : ℕ) (a : NominalType) → IsDeclaredType n m a → is_declared n m (shape_of_type a) ≡ true
opened_declared n m types.unit d = refl
opened_declared n m (types.names s) d = below_is s n d
opened_declared n m (types.base b) d = below_is b m d
opened_declared n m (types.pair a b) d = and_from (is_declared n m (shape_of_type a)) (is_declared n m (shape_of_type b)) (opened_declared n m a d.0) (opened_declared n m b d.1)
opened_declared n m (types.list a) d = opened_declared n m a d
opened_declared n m (types.abs s a) d = and_from (nat_lt s n) (is_declared n m (shape_of_type a)) (below_is s n d.0) (opened_declared n m a d.1)

filled_declared : (n m : ℕ) (f : Filling) (t : TypeShape) → is_declared n m (filled f t) ≡ true → is_declared n m t ≡ true
filled_declared n m f (hole x) e = refl
filled_declared n m f unit e = refl
filled_declared n m f (names s) e = e
filled_declared n m f (base d) e = e
filled_declared n m f (pair t u) e =
    let r = and_parts (is_declared n m (filled f t)) (is_declared n m (filled f u)) e in
    and_from (is_declared n m t) (is_declared n m u) (filled_declared n m f t r.0) (filled_declared n m f u r.1)
filled_declared n m f (list t) e = filled_declared n m f t e
filled_declared n m f (abs t u) e =
    let r = and_parts (is_declared n m (filled f t)) (is_declared n m (filled f u)) e in
    and_from (is_declared n m t) (is_declared n m u) (filled_declared n m f t r.0) (filled_declared n m f u r.1)

-- a declared type is an instance of declared shapes alone
pub instance_declared : (n m : ℕ) (f : Filling) (t : TypeShape) (a : NominalType) → shape_of_type a ≡ filled f t → IsDeclaredType n m a → is_declared n m t ≡ true
instance_declared n m f t a e d = filled_declared n m f t (ap (is_declared n m) (sym e) ∙ opened_declared n m a d)

-- a declared shape becomes a declared type by a choice of declared types
pub closed_declared : (n m : ℕ) (γ : Assign) (t : TypeShape) → IsProper (filling γ) t → ((y : ℕ) → IsDeclaredType n m (γ y)) → is_declared n m t ≡ true → IsDeclaredType n m (closed γ t)
closed_declared n m γ (hole x) p c e = c x
closed_declared n m γ unit p c e = tt
closed_declared n m γ (names s) p c e = is_below s n e
closed_declared n m γ (base d) p c e = is_below d m e
closed_declared n m γ (pair t u) p c e =
    let r = and_parts (is_declared n m t) (is_declared n m u) e in
    (closed_declared n m γ t p.0 c r.0, closed_declared n m γ u p.1 c r.1)
closed_declared n m γ (list t) p c e = closed_declared n m γ t p c e
closed_declared n m γ (abs t u) p c e =
    let r = and_parts (is_declared n m t) (is_declared n m u) e in
    (sort_declared t p.0 r.0, closed_declared n m γ u p.1 c r.1)
  where
    type_sort : (a : NominalType) → IsNamesShape (shape_of_type a) → IsDeclaredType n m a → sort_of a < n
    type_sort (types.names s) h d = d
    type_sort _ h d = absurd h

    sort_declared : (l : TypeShape) → IsNamesShape (filled (filling γ) l) → is_declared n m l ≡ true → sort_of (closed γ l) < n
    sort_declared (hole y) h d = type_sort (γ y) h (c y)
    sort_declared (names s) h d = is_below s n d
    sort_declared _ h d = absurd h

-- Closed shapes.
pub closed_read : (f : Filling) (t : TypeShape) → is_closed t ≡ true → filled f t ≡ shape_of_type (read_type t)
closed_read f (hole x) e = cc
closed_read f unit e = refl
closed_read f (names s) e = refl
closed_read f (base d) e = refl
closed_read f (pair t u) e =
    let r = and_parts (is_closed t) (is_closed u) e in
    let a = closed_read f t r.0 in
    let b = closed_read f u r.1 in
    cc
closed_read f (list t) e = ap list (closed_read f t e)
closed_read f (abs t u) e =
    let r = and_parts (is_sort t) (is_closed u) e in
    let a = sort_read t r.0 in
    let b = closed_read f u r.1 in
    cc
  where
    sort_read : (l : TypeShape) → is_sort l ≡ true → filled f l ≡ names (sort_in_shape l)
    sort_read (names s) d = refl
    sort_read (hole x) d = cc
    sort_read unit d = cc
    sort_read (base x) d = cc
    sort_read (pair x y) d = cc
    sort_read (list x) d = cc
    sort_read (abs x y) d = cc

pub read_sort : (t : TypeShape) → sort_of (read_type t) ≡ sort_in_shape t
read_sort (hole x) = refl
read_sort unit = refl
read_sort (names s) = refl
read_sort (base d) = refl
read_sort (pair t u) = refl
read_sort (list t) = refl
read_sort (abs t u) = refl

-- a proper shape that two different choices make the same is closed
pub same_closed : (a b : TypeShape) (t : TypeShape) → (a ≡ b → ⊥) → IsProper (λ y. a) t → filled (λ y. a) t ≡ filled (λ y. b) t → is_closed t ≡ true
same_closed a b (hole x) d p e = absurd (d e)
same_closed a b unit d p e = refl
same_closed a b (names s) d p e = refl
same_closed a b (base c) d p e = refl
same_closed a b (pair t u) d p e =
    let c : ◌≡◌ {A = TypeShape} (pair (filled (λ y. a) t) (filled (λ y. a) u)) (pair (filled (λ y. b) t) (filled (λ y. b) u)) = e in
    and_from (is_closed t) (is_closed u) (same_closed a b t d p.0 cc) (same_closed a b u d p.1 cc)
same_closed a b (list t) d p e =
    let c : ◌≡◌ {A = TypeShape} (list (filled (λ y. a) t)) (list (filled (λ y. b) t)) = e in
    same_closed a b t d p cc
same_closed a b (abs t u) d p e =
    let c : ◌≡◌ {A = TypeShape} (abs (filled (λ y. a) t) (filled (λ y. a) u)) (abs (filled (λ y. b) t) (filled (λ y. b) u)) = e in
    and_from (is_sort t) (is_closed u) (sort_same t p.0 cc) (same_closed a b u d p.1 cc)
  where
    sort_same : (l : TypeShape) → IsNamesShape (filled (λ y. a) l) → filled (λ y. a) l ≡ filled (λ y. b) l → is_sort l ≡ true
    sort_same (hole x) h i = absurd (d i)
    sort_same (names s) h i = refl
    sort_same _ h i = absurd h
