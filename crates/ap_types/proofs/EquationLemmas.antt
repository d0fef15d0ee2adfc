-- The equations that a table says.
use Rattle.std.proofs.Common.{◌≡◌, ◌<◌, ◌≤◌, ◌+◌, ◌⊎◌, ◌↔◌, ◌∙◌, ℕ, zero, suc, List, [], ◌∷◌, ◌++◌, length, refl, sym, ap, inl, inr, subst, arith, Result, Ok, Err}
use Rattle.std.specs.Prelude.{IfOk, IfErr}
use Rattle.std.specs.Prelude.{max, slice_index_or}
use Rattle.ap_defs.specs.Types.{TypeShape, hole}
use Rattle.ap_types.specs.declared.nodes.Node.{Node}
use Rattle.ap_types.specs.Equations.{ShapeEquation, ◌≐◌, Filling, filled, FilledBy, FillingSolves, IsSolution, IsShapeInstance, GivesNames, bound_of, equations_bound, names_bound, hole_count}
use Rattle.ap_types.specs.Assignments.{IsUnsolvable}
use Rattle.ap_types.specs.Solving.{shape_at}
use Rattle.ap_types.specs.Triangular.{shapes_of_nodes, Fits, AreFormed}
use Rattle.ap_types.specs.Growing.{table_equations, IsTableSolution, IsTableUnsolvable}
use Rattle.ap_types.proofs.NameLemmas.{fills_at, fills_from, at_any}
use Rattle.ap_types.proofs.TableLemmas.{at_past, formed_bound}

below_or_past : (i j : ℕ) → (i < j) ⊎ (j ≤ i)
below_or_past i j = grind arith

pub solves_append : (f : Filling) (es fs : List ShapeEquation) → FillingSolves f (es ++ fs) ↔ (FillingSolves f es × FillingSolves f fs)
solves_append f [] fs = ((λ s. (tt, s)), (λ s. s.1))
solves_append f ((t ≐ u) ∷ es) fs =
    let k = solves_append f es fs in
    ((λ s. ((s.0, (k.0 s.1).0), (k.0 s.1).1)), (λ s. (s.0.0, k.1 (s.0.1, s.1))))

table_filled : (f : Filling) (x : ℕ) (ts : List TypeShape) → FillingSolves f (table_equations x ts) → FilledBy f f x ts
table_filled f x [] s = tt
table_filled f x (t ∷ ts) s = (s.0, table_filled f (suc x) ts s.1)

filled_table : (f : Filling) (x : ℕ) (ts : List TypeShape) → FilledBy f f x ts → FillingSolves f (table_equations x ts)
filled_table f x [] s = tt
filled_table f x (t ∷ ts) s = (s.0, filled_table f (suc x) ts s.1)

pub table_fits : (f : Filling) (ts : List TypeShape) → FillingSolves f (table_equations 0 ts) → Fits f ts
table_fits f ts s x =
    elim (below_or_past x (length ts)) [
      | inl l ↦ let z : 0 + x ≡ x = omega arith in sym (ap f z) ∙ fills_at f f 0 x (hole x) ts (table_filled f 0 ts s) l
      | inr l ↦ sym (ap (filled f) (at_past ts x l))
    ]

pub fits_table : (f : Filling) (ts : List TypeShape) → Fits f ts → FillingSolves f (table_equations 0 ts)
fits_table f ts k =
    filled_table f 0 ts (fills_from f f 0 ts (λ y d l. let z : 0 + y ≡ y = omega arith in ap f z ∙ k y ∙ ap (filled f) (at_any ts y (hole y) d l)))

pub table_solution : (ts : List TypeShape) (es : List ShapeEquation) (xs : List ℕ) (n : ℕ) (f : Filling) → IsTableSolution ts es xs n f ↔ IsSolution (table_equations 0 ts ++ es) xs n f
table_solution ts es xs n f =
    let k = solves_append f (table_equations 0 ts) es in (
      (λ s. (k.1 (fits_table f ts s.0.0, s.0.1), s.1)),
      (λ s. let p = k.0 s.0 in ((table_fits f ts p.0, p.1), s.1)),
    )

pub table_unsolvable : (ts : List TypeShape) (es : List ShapeEquation) (xs : List ℕ) (n : ℕ) → IsUnsolvable (table_equations 0 ts ++ es) xs n → IsTableUnsolvable ts es xs n
table_unsolvable ts es xs n h f s = h f ((table_solution ts es xs n f).0 s)

-- the holes of a table are its places
bound_append : (es fs : List ShapeEquation) → equations_bound (es ++ fs) ≡ max (equations_bound es) (equations_bound fs)
bound_append [] fs = omega arith
bound_append ((t ≐ u) ∷ es) fs = let r = bound_append es fs in omega arith

bound_table : (x n : ℕ) (ts : List TypeShape) → x + length ts ≡ n → ((y : ℕ) (d : TypeShape) → y < length ts → bound_of (slice_index_or ts y d) ≤ n)
    → max x (equations_bound (table_equations x ts)) ≡ n
bound_table x n [] l h = omega arith
bound_table x n (t ∷ ts) l h =
    let r = bound_table (suc x) n ts (omega arith) (λ y d m. h (suc y) d (omega arith)) in
    let b = h 0 t (omega arith) in
    omega arith

pub table_count : (ts : List TypeShape) (es : List ShapeEquation) (xs : List ℕ) → AreFormed ts → hole_count (table_equations 0 ts ++ es) xs ≡ max (length ts) (hole_count es xs)
table_count ts es xs h =
    let b = bound_table 0 (length ts) ts (omega arith) (λ y d l. subst (λ (t : TypeShape). bound_of t ≤ length ts) (at_any ts y (hole y) d l) (formed_bound (length ts) y (shape_at ts y) l (h y))) in
    let a = bound_append (table_equations 0 ts) es in
    omega arith

-- an empty table says nothing
none_solution : (ns : List Node) (es : List ShapeEquation) (xs : List ℕ) (n : ℕ) (f : Filling) → ns ≡ [] → IsTableSolution (shapes_of_nodes ns) es xs n f ↔ IsSolution es xs n f
none_solution [] es xs n f e = ((λ s. (s.0.1, s.1)), (λ s. (((λ x. refl), s.0), s.1)))
none_solution (m ∷ ns) es xs n f e = absurd (cc)

pub empty_formed : (ns : List Node) → ns ≡ [] → AreFormed (shapes_of_nodes ns)
empty_formed [] e x = omega arith
empty_formed (m ∷ ns) e x = absurd (cc)

pub none_count : (ns : List Node) (holes n : ℕ) → ns ≡ [] → holes ≡ max (length ns) n → holes ≡ n
none_count [] holes n e h = omega (arith, h)
none_count (m ∷ ns) holes n e h = absurd (cc)

pub none_most_general : (ns : List Node) (es : List ShapeEquation) (xs : List ℕ) (n : ℕ) (ts : List TypeShape) → ns ≡ []
    → ((f : Filling) → IsTableSolution (shapes_of_nodes ns) es xs n f ↔ (IsShapeInstance ts f × GivesNames n f xs)) → (f : Filling) → IsSolution es xs n f ↔ (IsShapeInstance ts f × GivesNames n f xs)
none_most_general ns es xs n ts e h f =
    let k = none_solution ns es xs n f e in
    ((λ s. (h f).0 (k.1 s)), (λ s. k.0 ((h f).1 s)))

pub none_solvable : (ns : List Node) (es : List ShapeEquation) (xs : List ℕ) (n : ℕ) → ns ≡ [] → (f : Filling) × IsTableSolution (shapes_of_nodes ns) es xs n f → (f : Filling) × IsSolution es xs n f
none_solvable ns es xs n e h = (h.0, (none_solution ns es xs n h.0 e).0 h.1)

pub none_unsolvable : (ns : List Node) (es : List ShapeEquation) (xs : List ℕ) (n : ℕ) → ns ≡ [] → IsTableUnsolvable (shapes_of_nodes ns) es xs n → IsUnsolvable es xs n
none_unsolvable ns es xs n e h f s = h f ((none_solution ns es xs n f e).1 s)

-- The same for what the program returns.
pub given : {T E : Type 0} {P Q : T → Type 0} (res : Result T E) → ((r : T) → P r → Q r) → IfOk res P → IfOk res Q
given (Ok r) f h = f r h
given (Err e) f h = tt

pub given_err : {T E : Type 0} {P Q : E → Type 0} (res : Result T E) → ((e : E) → P e → Q e) → IfErr res P → IfErr res Q
given_err (Ok r) f h = tt
given_err (Err e) f h = f e h
