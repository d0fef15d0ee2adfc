-- What a settled table stands for.
use Rattle.std.proofs.Common.{◌≡◌, ◌<◌, ◌≤◌, ◌+◌, ◌-◌, ◌↔◌, ◌⊎◌, ◌∙◌, ℕ, zero, suc, List, [], ◌∷◌, ◌++◌, length, drop, get_or, append_assoc, Result, Ok, Err, refl, sym, ap, inl, inr, subst, arith}
use Rattle.std.specs.Prelude.{slice_index_or, IfOk}
use Rattle.std.proofs.lemmas.List.{at_drop_more}
use Rattle.ap_defs.specs.declared.terms.Shape.{Shape}
use Rattle.ap_defs.specs.Types.{shape_of, TypeShape, hole, unit, names, base, pair, list, abs}
use Rattle.ap_types.specs.declared.loading.Loaded.{Loaded}
use Rattle.ap_types.specs.Equations.{ShapeEquation, ◌≐◌, Filling, filled, FilledBy, FillingSolves, IsSolution, equations_bound, names_bound, hole_count}
use Rattle.ap_types.specs.Solving.{shape_at}
use Rattle.ap_types.specs.Assignments.{IsUnsolvable, name_equations, Narrows, IsNameOrHole, AreNamesOrHoles}
use Rattle.ap_types.specs.Triangular.{shapes_of_nodes, value_of, values_from, Fits, IsFormed, AreFormed, IsSettledTable}
use Rattle.ap_types.specs.Joining.{Agree, LoadsAll, LoadsSystem, Settles, Rewrites, TablesLead, NeverAgree, link}
use Rattle.ap_types.specs.Walking.{NoneFits}
use Rattle.ap_types.specs.Growing.{table_equations}
use Rattle.ap_types.proofs.ShapeLemmas.{filled_filled, filled_same}
use Rattle.ap_types.proofs.EquationLemmas.{solves_append, table_fits, fits_table}
use Rattle.ap_types.proofs.TableLemmas.{at_past, form_more}
use Rattle.ap_types.proofs.LoadLemmas.{solves_below}
use Rattle.ap_types.proofs.NameLemmas.{names_solved, bound_names}
use Rattle.ap_types.proofs.WalkLemmas.{weight, part_less, open_or_parts, read_open}

below_or_past : (i j : ℕ) → (i < j) ⊎ (j ≤ i)
below_or_past i j = grind arith

pub open_value : (ts : List TypeShape) (x : ℕ) → shape_at ts x ≡ hole x → value_of ts x ≡ hole x
open_value ts x e = read_open ts (length ts) x e

pub past_value : (ts : List TypeShape) (x : ℕ) → length ts ≤ x → value_of ts x ≡ hole x
past_value ts x l = open_value ts x (at_past ts x l)

-- what fits is an instance of what the places stand for
module _ (ts : List TypeShape) (settled : IsSettledTable ts) (f : Filling) (fits : Fits f ts) where
  instance_within : (m x : ℕ) → weight (value_of ts) (length ts) x < m → f x ≡ filled f (value_of ts x)
  instance_within zero x l = absurd (omega arith)
  instance_within (suc m) x l =
      elim (below_or_past x (length ts)) [
        | inl b ↦ elim (open_or_parts x (shape_at ts x)) [
          | inl o ↦ ap (filled f) (sym (open_value ts x o))
          | inr p ↦
              fits x
              ∙ filled_same f (λ y. filled f (value_of ts y)) (shape_at ts x) (λ c o.
              let k = (part_less (value_of ts) ts x c settled.formed settled.fits b (p c o)).0 in
              instance_within m c (omega arith))
              ∙ sym (filled_filled (value_of ts) f (shape_at ts x))
              ∙ ap (filled f) (sym (settled.fits x))
        ]
        | inr b ↦ ap (filled f) (sym (past_value ts x b))
      ]

  pub instance_of : (x : ℕ) → f x ≡ filled f (value_of ts x)
  instance_of x = instance_within (suc (weight (value_of ts) (length ts) x)) x (omega arith)

-- each instance fits
pub instance_fits : (ts : List TypeShape) → IsSettledTable ts → (g : Filling) → Fits (λ x. filled g (value_of ts x)) ts
instance_fits ts s g x = ap (filled g) (s.fits x) ∙ filled_filled (value_of ts) g (shape_at ts x)

-- The shapes of the first places.
pub length_values : (ts : List TypeShape) (x n : ℕ) → length (values_from ts x n) ≡ n
length_values ts x zero = refl
length_values ts x (suc n) = ap suc (length_values ts (suc x) n)

values_fill : (ts : List TypeShape) (g f : Filling) (x n : ℕ) → ((y : ℕ) → y < x + n → f y ≡ filled g (value_of ts y)) → FilledBy g f x (values_from ts x n)
values_fill ts g f x zero h = tt
values_fill ts g f x (suc n) h = (h x (omega arith), values_fill ts g f (suc x) n (λ y l. h y (omega arith)))

values_filled : (ts : List TypeShape) (g f : Filling) (x n y : ℕ) → FilledBy g f x (values_from ts x n) → y < n → f (x + y) ≡ filled g (value_of ts (x + y))
values_filled ts g f x zero y h l = absurd (omega arith)
values_filled ts g f x (suc n) zero h l = let e : x + 0 ≡ x = omega arith in subst (λ z. f z ≡ filled g (value_of ts z)) (sym e) h.0
values_filled ts g f x (suc n) (suc y) h l =
    let e : x + suc y ≡ suc x + y = omega arith in
    subst (λ z. f z ≡ filled g (value_of ts z)) (sym e) (values_filled ts g f (suc x) n y h.1 (omega arith))

value_index : (ts : List TypeShape) (x n y : ℕ) (d : TypeShape) → y < n → slice_index_or (values_from ts x n) y d ≡ value_of ts (x + y)
value_index ts x zero y d l = absurd (omega arith)
value_index ts x (suc n) zero d l = let e : x ≡ x + 0 = omega arith in ap (value_of ts) e
value_index ts x (suc n) (suc y) d l = let e : suc x + y ≡ x + suc y = omega arith in value_index ts (suc x) n y d (omega arith) ∙ ap (value_of ts) e

pub value_at : (ts : List TypeShape) (n y : ℕ) → y < n → shape_at (values_from ts 0 n) y ≡ value_of ts y
value_at ts n y l = let e : 0 + y ≡ y = omega arith in value_index ts 0 n y (hole y) l ∙ ap (value_of ts) e

-- The equations by their table.
module _ (es : List ShapeEquation) (xs : List ℕ) (n holes : ℕ) (ts : List TypeShape) (ps : List (ℕ × ℕ)) (count : hole_count es xs ≡ holes) (loads : LoadsSystem es (name_equations n xs) holes ts ps) where
  bound_first : equations_bound es ≤ holes
  bound_first = omega (arith, count)

  bound_second : equations_bound (name_equations n xs) ≤ holes
  bound_second = let b = bound_names n xs in omega (arith, count)

  agreeing : (f : Filling) → IsSolution es xs n f → (g : Filling) × (Fits g ts × Agree g ps) × ((x : ℕ) → x < holes → g x ≡ f x)
  agreeing f s =
      loads.more f s.0 (names_solved n f xs s.1)

  pub narrows_settled : (us : List TypeShape) → Settles ts ps us → Narrows es xs n (values_from us 0 holes)
  narrows_settled us h = record {
    onward = λ f s.
        let a = agreeing f s in
        let k = (h.solved a.0).0 a.1 in
        (a.0, values_fill us a.0 f 0 holes (λ y l. sym (a.2 y (omega arith)) ∙ instance_of us h.settled a.0 k y));
    back = λ g f k.
        let φ : Filling = λ x. filled g (value_of us x) in
        let a = (h.solved φ).1 (instance_fits us h.settled g) in
        let s = loads.solves φ a.0 a.1 in
        let same : (x : ℕ) → x < holes → f x ≡ φ x = λ x l. let e : 0 + x ≡ x = omega arith in subst (λ z. f z ≡ filled g (value_of us z)) e (values_filled us g f 0 holes x k l) in
        (solves_below φ f es holes bound_first same s.0, solves_below φ f (name_equations n xs) holes bound_second same s.1);
    as_many = length_values us 0 holes ∙ sym count;
  }

  pub unsolvable_never : NeverAgree ts ps → IsUnsolvable es xs n
  unsolvable_never h f s = let a = agreeing f s in h a.0 a.1.0 a.1.1

-- The equations of a table that is begun, and both lists of equations.
pub table_places : (f : Filling) (os ts : List TypeShape) → ((x : ℕ) → shape_at os x ≡ shape_at ts x) → Fits f ts ↔ Fits f os
table_places f os ts same = ((λ k x. k x ∙ ap (filled f) (sym (same x))), (λ k x. k x ∙ ap (filled f) (same x)))

pub places_formed : (os ts : List TypeShape) → ((x : ℕ) → shape_at os x ≡ shape_at ts x) → length ts ≤ length os → AreFormed ts → AreFormed os
places_formed os ts same l h x = form_more (length ts) (length os) x (shape_at os x) l (subst (IsFormed (length ts) x) (sym (same x)) (h x))

pub loads_system : (ts : List TypeShape) (es fs : List ShapeEquation) (holes : ℕ) (os us vs : List TypeShape) (ps qs : List (ℕ × ℕ)) → ((x : ℕ) → shape_at os x ≡ shape_at ts x) → length os ≡ holes
    → equations_bound fs ≤ holes → LoadsAll os [] es us ps → LoadsAll us ps fs vs qs → LoadsSystem (table_equations 0 ts ++ es) fs holes vs qs
loads_system ts es fs holes os us vs ps qs same long bound h k = record {
  formed = k.formed;
  within = k.within;
  longer = let a = h.longer in let b = k.longer in omega arith;
  solves = λ f e a.
      let b = k.solves f e a in
      let c = h.solves f b.0.0 b.0.1 in
      ((solves_append f (table_equations 0 ts) es).1 (fits_table f ts ((table_places f os ts same).1 c.0.0), c.1), b.1);
  more = λ f s r.
      let p = (solves_append f (table_equations 0 ts) es).0 s in
      let a = h.more f ((table_places f os ts same).0 (table_fits f ts p.0)) tt p.1 in
      let b = k.more a.0 a.1.0 a.1.1 (solves_below f a.0 fs holes bound (λ x l. a.2 x (omega arith)) r) in
      (b.0, b.1, λ x l. b.2 x (let m = h.longer in omega arith) ∙ a.2 x (omega arith));
}

-- Settling: the pairs are joined, links shortened, and no cycle was found.
pub settles : (ts us vs : List TypeShape) (ps : List (ℕ × ℕ)) → TablesLead ts ps us [] → Rewrites us vs → IsSettledTable vs → Settles ts ps vs
settles ts us vs ps h k s = record {
  settled = s;
  solved = λ f. (
    (λ e. (k.same f).0 ((h.solved f).0 e).0),
    (λ e. (h.solved f).1 ((k.same f).1 e, tt)),
  );
}

pub never_settles : (ts us vs : List TypeShape) (ps : List (ℕ × ℕ)) → TablesLead ts ps us [] → Rewrites us vs → NoneFits vs → NeverAgree ts ps
never_settles ts us vs ps h k n f e a = n f ((k.same f).0 ((h.solved f).0 (e, a)).0)

-- Name types.
pub linked_value : (ts : List TypeShape) (x : ℕ) → IsSettledTable ts → value_of ts x ≡ value_of ts (link x (shape_at ts x))
linked_value ts x s = along x (shape_at ts x) (s.fits x)
  where
    along : (x : ℕ) (t : TypeShape) → value_of ts x ≡ filled (value_of ts) t → value_of ts x ≡ value_of ts (link x t)
    along x (hole y) h = h
    along x unit h = refl
    along x (names s) h = refl
    along x (base d) h = refl
    along x (pair t u) h = refl
    along x (list t) h = refl
    along x (abs t u) h = refl

-- One more shape, in a loop over the first places.
pub values_more : (ts done now all : List TypeShape) (v : TypeShape) (x count : ℕ) → x < count → now ≡ done ++ v ∷ [] → v ≡ value_of ts x → done ++ values_from ts x (count - x) ≡ all
    → now ++ values_from ts (x + 1) (count - (x + 1)) ≡ all
values_more ts done now all v x count l e i h =
    let k : count - x ≡ suc (count - (x + 1)) = omega arith in
    let m : suc x ≡ x + 1 = omega arith in
    let rest = values_from ts (x + 1) (count - (x + 1)) in
    let step : values_from ts x (count - x) ≡ v ∷ rest =
    ap (values_from ts x) k ∙ ap (λ u. u ∷ values_from ts (suc x) (count - (x + 1))) (sym i) ∙ ap (λ y. v ∷ values_from ts y (count - (x + 1))) m in
    ap (λ (us : List TypeShape). us ++ rest) e ∙ append_assoc done (v ∷ []) rest ∙ ap (λ (us : List TypeShape). done ++ us) (sym step) ∙ h

-- One more hole that must be a name type, in a loop over all.
pub names_next : (n holes : ℕ) (ts : List TypeShape) (xs : List ℕ) (i : ℕ) → i < length xs → names_bound (drop i xs) ≤ holes
    → (AreNamesOrHoles n (values_from ts 0 holes) (drop i xs) ↔ (IsNameOrHole n (value_of ts (get_or xs i 0)) × AreNamesOrHoles n (values_from ts 0 holes) (drop (i + 1) xs)))
    × (names_bound (drop (i + 1) xs) ≤ holes)
names_next n holes ts xs i l b =
    let x = get_or xs i 0 in
    let vs = values_from ts 0 holes in
    let e : drop i xs ≡ x ∷ drop (i + 1) xs = at_drop_more (λ ys. ys) xs i 0 l in
    let m : names_bound (x ∷ drop (i + 1) xs) ≤ holes = subst (λ (ys : List ℕ). names_bound ys ≤ holes) e b in
    let v : shape_at vs x ≡ value_of ts x = value_at ts holes x (omega arith) in (
      (
        (λ h. let k = subst (λ (ys : List ℕ). AreNamesOrHoles n vs ys) e h in (subst (IsNameOrHole n) v k.0, k.1)),
        (λ h. subst (λ (ys : List ℕ). AreNamesOrHoles n vs ys) (sym e) (subst (IsNameOrHole n) (sym v) h.0, h.1)),
      ),
      omega arith,
    )

-- The same for what the program returns.
pub loaded_system : {E : Type 0} (r : Result Loaded E) (es fs : List ShapeEquation) (holes : ℕ) (ts : List TypeShape) (ps : List (ℕ × ℕ))
    → ((us : List TypeShape) (qs : List (ℕ × ℕ)) → LoadsAll ts ps fs us qs → LoadsSystem es fs holes us qs)
    → IfOk r (λ l. LoadsAll ts ps fs (shapes_of_nodes l.nodes.items) l.pairs.items) → IfOk r (λ l. LoadsSystem es fs holes (shapes_of_nodes l.nodes.items) l.pairs.items)
loaded_system (Ok l) es fs holes ts ps k h = k (shapes_of_nodes l.nodes.items) l.pairs.items h
loaded_system (Err e) es fs holes ts ps k h = tt

pub value_as : {E : Type 0} (r : Result Shape E) (v w : TypeShape) → v ≡ w → IfOk r (λ t. shape_of t ≡ v) → IfOk r (λ t. shape_of t ≡ w)
value_as (Ok t) v w e h = h ∙ e
value_as (Err x) v w e h = tt
