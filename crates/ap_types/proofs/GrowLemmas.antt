-- Tables that take in one equation after another.
use Rattle.std.proofs.Common.{◌≡◌, ◌<◌, ◌≤◌, ◌+◌, ◌-◌, ◌⊎◌, ◌↔◌, ◌∙◌, ℕ, zero, suc, Bool, true, false, List, [], ◌∷◌, ◌++◌, length, set, Option, Some, None, refl, sym, ap, inl, inr, subst, arith, eqb-true}
use Rattle.std.specs.Prelude.{◌==◌, ◌&&◌, nat_lt, nat_le, if◌then◌else◌, slice_index_or}
use Rattle.std.proofs.Math.Seq.{get_or-append_seam}
use Rattle.std.proofs.lemmas.Bool.{and_parts}
use Rattle.std.proofs.lemmas.Bool.Decides.{nat_tests}
use Rattle.std.proofs.lemmas.List.{get_or_append_left, length-append}
use Rattle.ap_defs.specs.Types.{TypeShape, hole, unit, names, base, pair, list, abs}
use Rattle.ap_types.specs.declared.nodes.Node.{Node}
use Rattle.ap_types.specs.declared.nodes.Node.TheVariants as nodes
use Rattle.ap_types.specs.Equations.{◌≐◌, Filling, filled, bound_of}
use Rattle.ap_types.specs.Solving.{shape_at}
use Rattle.ap_types.specs.Triangular.{layer_of, shapes_of_nodes, Fits, IsFormed, AreFormed}
use Rattle.ap_types.specs.Joining.{ArePairsWithin, LoadsAll}
use Rattle.ap_types.specs.Growing.{open_table, is_same, is_hole, is_flat, is_below, can_stand, is_open_hole, put_at, put_hole, first_table, with_same, so_far, with_equation, pair_in, list_in, near_of, near_base}
use Rattle.ap_types.proofs.TableLemmas.{compare_numbers, at_set_same, at_set_other, at_past, length_set, length_table, table_push, table_set, form_more}
use Rattle.ap_types.proofs.LinkLemmas.{equal_or_not, set_formed}
use Rattle.ap_types.proofs.FillLemmas.{fits_without, fits_with}

lt_from : (i j : ℕ) → nat_lt i j ≡ true → i < j
lt_from i j e = grind (arith, nat_tests)

le_from : (i j : ℕ) → nat_le i j ≡ true → i ≤ j
le_from i j e = grind (arith, nat_tests)

-- A hole more at the end.
pub grown_at : (ts : List TypeShape) (x : ℕ) → shape_at (ts ++ hole (length ts) ∷ []) x ≡ shape_at ts x
grown_at ts x =
    elim (compare_numbers x (length ts)) [
      | inl l ↦ get_or_append_left ts (hole (length ts) ∷ []) (hole x) x l
      | inr k ↦ elim k [
        | inl e ↦
            let seam : shape_at (ts ++ hole (length ts) ∷ []) x ≡ hole (length ts) =
            subst (λ y. slice_index_or (ts ++ hole (length ts) ∷ []) y (hole x) ≡ hole (length ts)) (sym e) (get_or-append_seam ts (hole (length ts)) [] (hole x)) in
            seam ∙ ap hole (sym e) ∙ sym (at_past ts x (omega (arith, e)))
        | inr g ↦
            let long = length-append ts (hole (length ts) ∷ []) in
            at_past (ts ++ hole (length ts) ∷ []) x (omega (arith, g, long)) ∙ sym (at_past ts x (omega (arith, g)))
      ]
    ]

pub grown_length : (ts : List TypeShape) (t : TypeShape) → length (ts ++ t ∷ []) ≡ length ts + 1
grown_length ts t = length-append ts (t ∷ [])

pub grown_fits : (f : Filling) (ts : List TypeShape) → Fits f ts ↔ Fits f (ts ++ hole (length ts) ∷ [])
grown_fits f ts = (
  (λ k x. k x ∙ ap (filled f) (sym (grown_at ts x))),
  (λ k x. k x ∙ ap (filled f) (grown_at ts x)),
)

pub grown_formed : (ts : List TypeShape) → AreFormed ts → AreFormed (ts ++ hole (length ts) ∷ [])
grown_formed ts h x =
    let long = grown_length ts (hole (length ts)) in
    form_more (length ts) (length (ts ++ hole (length ts) ∷ [])) x (shape_at (ts ++ hole (length ts) ∷ []) x) (omega (arith, long))
    (subst (IsFormed (length ts) x) (sym (grown_at ts x)) (h x))

pub open_length : (n : ℕ) → length (open_table n) ≡ n
open_length zero = refl
open_length (suc n) = let r = open_length n in let e = grown_length (open_table n) (hole n) in omega (arith, r, e)

pub open_at : (n x : ℕ) → shape_at (open_table n) x ≡ hole x
open_at zero x = refl
open_at (suc n) x =
    let long = open_length n in
    let e : shape_at (open_table n ++ hole (length (open_table n)) ∷ []) x ≡ shape_at (open_table n) x = grown_at (open_table n) x in
    ap (λ k. shape_at (open_table n ++ hole k ∷ []) x) (sym long) ∙ e ∙ open_at n x

pub open_fits : (f : Filling) (n : ℕ) → Fits f (open_table n)
open_fits f n x = sym (ap (filled f) (open_at n x))

pub open_table_formed : (n : ℕ) → AreFormed (open_table n)
open_table_formed n x = subst (IsFormed (length (open_table n)) x) (sym (open_at n x)) (omega arith)

-- one more open place, as the program puts it there
pub open_next : (ns : List Node) (n : ℕ) → shapes_of_nodes ns ≡ open_table n → shapes_of_nodes (ns ++ nodes.Place n ∷ []) ≡ open_table (n + 1)
open_next ns n e =
    let m : suc n ≡ n + 1 = omega arith in
    table_push ns (nodes.Place n) ∙ ap (λ (ts : List TypeShape). ts ++ hole n ∷ []) e ∙ ap open_table m

pub hole_pushed : (ns : List Node) → shapes_of_nodes (ns ++ nodes.Place (length ns) ∷ []) ≡ shapes_of_nodes ns ++ hole (length (shapes_of_nodes ns)) ∷ []
hole_pushed ns = table_push ns (nodes.Place (length ns)) ∙ ap (λ n. shapes_of_nodes ns ++ hole n ∷ []) (sym (length_table ns))

pub place_pushed : (ns ms : List Node) (x y : ℕ) → length ns ≡ x → ms ≡ ns ++ nodes.Place x ∷ [] → shape_at (shapes_of_nodes ms) y ≡ shape_at (shapes_of_nodes ns) y
place_pushed ns ms x y l e =
    let m : shapes_of_nodes ms ≡ shapes_of_nodes ns ++ hole (length (shapes_of_nodes ns)) ∷ [] =
    ap shapes_of_nodes e ∙ table_push ns (nodes.Place x) ∙ ap (λ n. shapes_of_nodes ns ++ hole n ∷ []) (sym l ∙ sym (length_table ns)) in
    ap (λ (ts : List TypeShape). shape_at ts y) m ∙ grown_at (shapes_of_nodes ns) y

-- What is the same, what can stand.
pub same_shapes : (t u : TypeShape) → is_same t u ≡ true → t ≡ u
same_shapes (hole x) (hole y) e = ap hole (eqb-true x y e)
same_shapes unit unit e = refl
same_shapes (names r) (names s) e = ap names (eqb-true r s e)
same_shapes (base c) (base d) e = ap base (eqb-true c d e)
same_shapes _ _ e = cc

below_bound : (n : ℕ) (t : TypeShape) → is_below n t ≡ true → bound_of t ≤ n
below_bound n (hole y) e = let l = lt_from y n e in omega (arith, l)
below_bound n _ e = cc

stand_formed : (n x : ℕ) (t : TypeShape) → can_stand n x t ≡ true → IsFormed n x t
stand_formed n x (hole y) e = le_from y x e
stand_formed n x unit e = omega arith
stand_formed n x (names s) e = omega arith
stand_formed n x (base d) e = omega arith
stand_formed n x (pair t u) e =
    let p = and_parts (is_below n t) (is_below n u) e in
    let a = below_bound n t p.0 in
    let b = below_bound n u p.1 in
    omega (arith, a, b)
stand_formed n x (list t) e = below_bound n t e
stand_formed n x (abs t u) e =
    let p = and_parts (is_below n t) (is_below n u) e in
    let a = below_bound n t p.0 in
    let b = below_bound n u p.1 in
    omega (arith, a, b)

open_is : (x : ℕ) (t : TypeShape) → is_open_hole x t ≡ true → t ≡ hole x
open_is x (hole y) e = ap hole (sym (eqb-true x y e))
open_is x _ e = cc

-- What a table says that takes in that two shapes are the same.
pub record Takes (ts : List TypeShape) (t u : TypeShape) (us : List TypeShape) : Type 0 where
  pub formed : AreFormed us
  pub as_long : length us ≡ length ts
  pub solved : (f : Filling) → Fits f us ↔ (Fits f ts × (filled f t ≡ filled f u))
  pub each : (x : ℕ) → (shape_at us x ≡ shape_at ts x) ⊎ ((shape_at us x ≡ u) ⊎ (shape_at us x ≡ t))

takes_none : (ts : List TypeShape) (t u : TypeShape) → AreFormed ts → ((f : Filling) → Fits f ts → filled f t ≡ filled f u) → Takes ts t u ts
takes_none ts t u h s = record {
  formed = h;
  as_long = refl;
  solved = λ f. ((λ k. (k, s f k)), (λ k. k.0));
  each = λ x. inl refl;
}

takes_set : (ts : List TypeShape) (x : ℕ) (u : TypeShape) → AreFormed ts → x < length ts → shape_at ts x ≡ hole x → IsFormed (length ts) x u → Takes ts (hole x) u (set ts x u)
takes_set ts x u h l o k = record {
  formed = set_formed ts x u l h k;
  as_long = length_set ts x u;
  solved = λ f. (
    (λ r. (fits_without ts x u l o f r, r x ∙ ap (filled f) (at_set_same ts x u l))),
    (λ r. fits_with ts x u l o f r.1 r.0),
  );
  each = λ y. elim (equal_or_not y x) [
    | inl i ↦ inr (inl (subst (λ z. shape_at (set ts x u) z ≡ u) (sym i) (at_set_same ts x u l)))
    | inr n ↦ inl (at_set_other ts x y u n)
  ];
}

takes_as : (ts : List TypeShape) (t u : TypeShape) (us vs : List TypeShape) → ◌≡◌ {A = Option (List TypeShape)} (Some us) (Some vs) → Takes ts t u us → Takes ts t u vs
takes_as ts t u us vs e h = let d : us ≡ vs = cc in subst (Takes ts t u) d h

takes_at : (ts us : List TypeShape) (x : ℕ) (u : TypeShape) → AreFormed ts → (b c d : Bool) → nat_lt x (length ts) ≡ b → is_same (shape_at ts x) u ≡ c
    → (is_open_hole x (shape_at ts x) && can_stand (length ts) x u) ≡ d → (if b then (if c then Some ts else if d then Some (set ts x u) else None) else None) ≡ Some us → Takes ts (hole x) u us
takes_at ts us x u h true true d p q r e = takes_as ts (hole x) u ts us e (takes_none ts (hole x) u h (λ f k. k x ∙ ap (filled f) (same_shapes (shape_at ts x) u q)))
takes_at ts us x u h true false true p q r e =
    let both = and_parts (is_open_hole x (shape_at ts x)) (can_stand (length ts) x u) r in
    takes_as ts (hole x) u (set ts x u) us e (takes_set ts x u h (lt_from x (length ts) p) (open_is x (shape_at ts x) both.0) (stand_formed (length ts) x u both.1))
takes_at ts us x u h true false false p q r e = let c : ◌≡◌ {A = Option (List TypeShape)} None (Some us) = e in absurd (cc)
takes_at ts us x u h false c d p q r e = let n : ◌≡◌ {A = Option (List TypeShape)} None (Some us) = e in absurd (cc)

takes_put : (ts us : List TypeShape) (t u : TypeShape) → AreFormed ts → put_hole ts t u ≡ Some us → Takes ts t u us
takes_put ts us (hole x) u h e =
    takes_at ts us x u h (nat_lt x (length ts)) (is_same (shape_at ts x) u) (is_open_hole x (shape_at ts x) && can_stand (length ts) x u) refl refl refl e
takes_put ts us unit u h e = let n : ◌≡◌ {A = Option (List TypeShape)} None (Some us) = e in absurd (cc)
takes_put ts us (names s) u h e = let n : ◌≡◌ {A = Option (List TypeShape)} None (Some us) = e in absurd (cc)
takes_put ts us (base d) u h e = let n : ◌≡◌ {A = Option (List TypeShape)} None (Some us) = e in absurd (cc)
takes_put ts us (pair t v) u h e = let n : ◌≡◌ {A = Option (List TypeShape)} None (Some us) = e in absurd (cc)
takes_put ts us (list t) u h e = let n : ◌≡◌ {A = Option (List TypeShape)} None (Some us) = e in absurd (cc)
takes_put ts us (abs t v) u h e = let n : ◌≡◌ {A = Option (List TypeShape)} None (Some us) = e in absurd (cc)

takes_turned : (ts us : List TypeShape) (t u : TypeShape) → Takes ts u t us → Takes ts t u us
takes_turned ts us t u h = record {
  formed = h.formed;
  as_long = h.as_long;
  solved = λ f. let k = h.solved f in ((λ r. let p = k.0 r in (p.0, sym p.1)), (λ r. k.1 (r.0, sym r.1)));
  each = λ x. elim (h.each x) [ inl e ↦ inl e | inr o ↦ elim o [ inl e ↦ inr (inr e) | inr e ↦ inr (inl e) ] ];
}

takes_first : (ts us : List TypeShape) (t u : TypeShape) → AreFormed ts → (o : Option (List TypeShape)) → put_hole ts t u ≡ o → first_table o (put_hole ts u t) ≡ Some us → Takes ts t u us
takes_first ts us t u h (Some vs) p e = takes_as ts t u vs us e (takes_put ts vs t u h p)
takes_first ts us t u h None p e = takes_turned ts us t u (takes_put ts us u t h e)

takes_same : (ts us : List TypeShape) (t u : TypeShape) → AreFormed ts → (b : Bool) → is_same t u ≡ b → (if b then Some ts else first_table (put_hole ts t u) (put_hole ts u t)) ≡ Some us → Takes ts t u us
takes_same ts us t u h true p e = takes_as ts t u ts us e (takes_none ts t u h (λ f k. ap (filled f) (same_shapes t u p)))
takes_same ts us t u h false p e = takes_first ts us t u h (put_hole ts t u) refl e

-- what is said of a shape so far is the same as the shape
pub far_filled : (f : Filling) (ts : List TypeShape) (t : TypeShape) → Fits f ts → filled f t ≡ filled f (so_far ts t)
far_filled f ts (hole x) k = k x
far_filled f ts unit k = refl
far_filled f ts (names s) k = refl
far_filled f ts (base d) k = refl
far_filled f ts (pair t u) k = refl
far_filled f ts (list t) k = refl
far_filled f ts (abs t u) k = refl

-- Places that are a pair or a list.
pub pair_is : (t : TypeShape) (p : ℕ × ℕ) → pair_in t ≡ Some p → t ≡ pair (hole p.0) (hole p.1)
pair_is (pair (hole x) (hole y)) p e = let i : ◌≡◌ {A = ℕ × ℕ} (x, y) p = cc in ap (λ (q : ℕ × ℕ). pair (hole q.0) (hole q.1)) i
pair_is _ p e = cc

pub list_is : (t : TypeShape) (x : ℕ) → list_in t ≡ Some x → t ≡ list (hole x)
list_is (list (hole y)) x e = let i : y ≡ x = cc in ap (λ z. list (hole z)) i
list_is _ x e = cc

-- Places of a data type.
near_here : (ts : List TypeShape) (d e y p : ℕ) (b : Bool) → (e == d) ≡ b → shape_at ts y ≡ base e → (if b then Some y else None) ≡ Some p → shape_at ts p ≡ base d
near_here ts d e y p true q h s = let i : y ≡ p = cc in subst (λ x. shape_at ts x ≡ base d) i (h ∙ ap base (eqb-true e d q))
near_here ts d e y p false q h s = let n : ◌≡◌ {A = Option ℕ} None (Some p) = s in absurd (cc)

near_left : (ts : List TypeShape) (d x p : ℕ) (b : Bool) → is_same (shape_at ts x) (base d) ≡ b → (if b then Some x else None) ≡ Some p → shape_at ts p ≡ base d
near_left ts d x p true q s = let i : x ≡ p = cc in subst (λ y. shape_at ts y ≡ base d) i (same_shapes (shape_at ts x) (base d) q)
near_left ts d x p false q s = let n : ◌≡◌ {A = Option ℕ} None (Some p) = s in absurd (cc)

near_entry : (ts : List TypeShape) (d y p : ℕ) (t : TypeShape) → shape_at ts y ≡ t → near_of ts d y t ≡ Some p → shape_at ts p ≡ base d
near_entry ts d y p (base e) h s = near_here ts d e y p (e == d) refl h s
near_entry ts d y p (pair (hole x) u) h s = near_left ts d x p (is_same (shape_at ts x) (base d)) refl s
near_entry ts d y p _ h s = cc

pub near_is : (ts : List TypeShape) (d p : ℕ) → near_base ts d ≡ Some p → shape_at ts p ≡ base d
near_is ts d p s = near_entry ts d (length ts - 2) p (shape_at ts (length ts - 2)) refl s

-- such a place is one of the table
pub base_below : (ts : List TypeShape) (d p : ℕ) → shape_at ts p ≡ base d → p < length ts
base_below ts d p h =
    elim (compare_numbers p (length ts)) [
      | inl l ↦ l
      | inr k ↦
          let past : length ts ≤ p = elim k [ inl e ↦ omega (arith, e) | inr g ↦ omega (arith, g) ] in
          let o : hole p ≡ base d = sym (at_past ts p past) ∙ h in
          absurd (cc)
    ]

-- The table with an equation.
pub record TakesIn (ts : List TypeShape) (t u : TypeShape) (us : List TypeShape) : Type 0 where
  pub formed : AreFormed us
  pub as_long : length us ≡ length ts
  pub solved : (f : Filling) → Fits f us ↔ (Fits f ts × (filled f t ≡ filled f u))
  pub each : (x : ℕ) → (shape_at us x ≡ shape_at ts x) ⊎ ((shape_at us x ≡ u) ⊎ (shape_at us x ≡ so_far ts t))

pub takes_in : (ts us : List TypeShape) (t u : TypeShape) → AreFormed ts → with_equation ts t u ≡ Some us → TakesIn ts t u us
unfolding with_equation
takes_in ts us t u h e =
    let k = takes_same ts us (so_far ts t) u h (is_same (so_far ts t) u) refl e in
    record {
      formed = k.formed;
      as_long = k.as_long;
      solved = λ f. (
        (λ r. let p = (k.solved f).0 r in (p.0, far_filled f ts t p.0 ∙ p.1)),
        (λ r. (k.solved f).1 (r.0, sym (far_filled f ts t r.0) ∙ r.1)),
      );
      each = k.each;
    }

-- it says so as other tables with pairs of places do
pub loads_taken : (ts us : List TypeShape) (t u : TypeShape) (ps : List (ℕ × ℕ)) → AreFormed ts → ArePairsWithin (length ts) ps → with_equation ts t u ≡ Some us → LoadsAll ts ps ((t ≐ u) ∷ []) us ps
loads_taken ts us t u ps h w e =
    let k = takes_in ts us t u h e in
    let long = k.as_long in record {
      longer = omega (arith, long);
      formed = k.formed;
      within = subst (λ n. ArePairsWithin n ps) (sym long) w;
      solves = λ f b a. let p = (k.solved f).0 b in ((p.0, a), (p.1, tt));
      more = λ f b a s. (f, ((k.solved f).1 (b, s.0), a), λ x l. refl);
    }
