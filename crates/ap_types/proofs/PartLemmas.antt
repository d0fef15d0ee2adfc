-- Shapes that are put into a table part by part.
use Rattle.std.proofs.Common.{◌≡◌, ◌<◌, ◌≤◌, ◌⊎◌, ◌+◌, ◌-◌, ◌∙◌, ℕ, zero, suc, true, List, [], ◌∷◌, ◌++◌, length, drop, get_or, append_assoc, append-nil, refl, sym, ap, ap₂, subst, inl, inr, arith, length-append, max, Bor}
use Rattle.std.specs.Prelude.{slice_index_or}
use Rattle.std.proofs.lemmas.List.{get_or_append_left, get_or-append_right, drop_more, drop-append-le}
use Rattle.std.proofs.Math.Seq.{get_or-append_seam}
use Rattle.ap_defs.specs.declared.terms.Shape.{Shape}
use Rattle.ap_defs.specs.Types.{TypeShape, shape_of, hole, unit, names, base, pair, list, abs}
use Rattle.ap_types.specs.Equations.{Filling, filled, bound_of}
use Rattle.ap_types.specs.Solving.{occurs_in_shape, shape_at, size}
use Rattle.ap_types.specs.Triangular.{Fits, IsFormed, AreFormed}
use Rattle.ap_types.specs.Joining.{Extends, Loads}
use Rattle.ap_types.specs.Loading.{lent_shapes, taken, place_in, parts_taken, entry_in, parts_of, own_bound}
use Rattle.ap_types.proofs.BooleanLemmas.{or_cases}
use Rattle.ap_types.proofs.ShapeLemmas.{filled_filled, filled_same, filled_below, size_occurs}
use Rattle.ap_types.proofs.PartTests.{last_lent, sum_sizes, sum_append}
use Rattle.ap_types.proofs.TableLemmas.{at_past, form_more, formed_bound}

-- What the places stand for: each of the first n for itself, and the next ones for these shapes.
abbrev pub part_at : ℕ → ℕ → List TypeShape → ℕ → TypeShape
part_at x zero us i = slice_index_or us i (hole x)
part_at x (suc n) us zero = hole x
part_at x (suc n) us (suc i) = part_at x n us i

abbrev pub meaning : ℕ → List TypeShape → Filling
meaning n us x = part_at x n us x

means_itself : (x n : ℕ) (us : List TypeShape) (i : ℕ) → i < n → part_at x n us i ≡ hole x
means_itself x zero us i l = absurd (omega arith)
means_itself x (suc n) us zero l = refl
means_itself x (suc n) us (suc i) l = means_itself x n us i (omega arith)

means_part : (x n : ℕ) (us : List TypeShape) (i k : ℕ) → k ≡ n + i → part_at x n us k ≡ slice_index_or us i (hole x)
means_part x zero us i k e = let f : k ≡ i = omega arith in ap (λ j. slice_index_or us j (hole x)) f
means_part x (suc n) us i zero e = absurd (omega arith)
means_part x (suc n) us i (suc k) e = means_part x n us i k (omega arith)

means_more : (x n : ℕ) (us vs : List TypeShape) (i : ℕ) → i < n + length us → part_at x n (us ++ vs) i ≡ part_at x n us i
means_more x zero us vs i l = get_or_append_left us vs (hole x) i (omega arith)
means_more x (suc n) us vs zero l = refl
means_more x (suc n) us vs (suc i) l = means_more x n us vs i (omega arith)

means_past : (x n : ℕ) (us : List TypeShape) (i : ℕ) → n + length us ≤ i → part_at x n us i ≡ hole x
means_past x zero [] i l = refl
means_past x zero (u ∷ us) zero l = absurd (omega arith)
means_past x zero (u ∷ us) (suc i) l = means_past x zero us i (omega arith)
means_past x (suc n) us zero l = absurd (omega arith)
means_past x (suc n) us (suc i) l = means_past x n us i (omega arith)

-- what the place behind some stands for
means_new : (n : ℕ) (us ws all : List TypeShape) (k : ℕ) (u : TypeShape) → k ≡ n + length us → all ≡ (us ++ u ∷ []) ++ ws → (meaning n all k ≡ u) × (k < n + length all)
means_new n us ws all k u e f =
    let g : all ≡ us ++ u ∷ ws = f ∙ append_assoc us (u ∷ []) ws in
    let h = length-append us (u ∷ ws) in
    let i : length all ≡ length (us ++ u ∷ ws) = ap length g in
    (means_part k n all (length us) k e ∙ ap (λ (vs : List TypeShape). slice_index_or vs (length us) (hole k)) g ∙ get_or-append_seam us u ws (hole k), omega arith)

-- the place of a shape stands for it
place_means : (n : ℕ) (us ws all : List TypeShape) (k : ℕ) (t : TypeShape) → k ≡ n + length us → all ≡ (us ++ taken t) ++ ws → bound_of t ≤ n
    → (meaning n all (place_in k t) ≡ t) × (place_in k t < n + length all)
place_means n us ws all k (hole x) e f l = (means_itself x n all x (omega arith), omega arith)
place_means n us ws all k unit e f l = means_new n us ws all k unit e f
place_means n us ws all k (names s) e f l = means_new n us ws all k (names s) e f
place_means n us ws all k (base d) e f l = means_new n us ws all k (base d) e f
place_means n us ws all k (pair t u) e f l = means_new n us ws all k (pair t u) e f
place_means n us ws all k (list t) e f l = means_new n us ws all k (list t) e f
place_means n us ws all k (abs t u) e f l = means_new n us ws all k (abs t u) e f

-- Shapes that take places: none is a hole, and the holes in them are among the first n places.
abbrev pub IsNoHole : TypeShape → Type 0
IsNoHole (hole x) = ⊥
IsNoHole t = Unit {0}

abbrev pub AreTaken : ℕ → List TypeShape → Type 0
AreTaken n [] = Unit {0}
AreTaken n (u ∷ us) = IsNoHole u × (bound_of u ≤ n) × AreTaken n us

taken_append : (n : ℕ) (us vs : List TypeShape) → AreTaken n us → AreTaken n vs → AreTaken n (us ++ vs)
taken_append n [] vs h k = k
taken_append n (u ∷ us) vs h k = (h.0, h.1, taken_append n us vs h.2 k)

taken_one : (n : ℕ) (t : TypeShape) → bound_of t ≤ n → AreTaken n (taken t)
taken_one n (hole x) l = tt
taken_one n unit l = (tt, l, tt)
taken_one n (names s) l = (tt, l, tt)
taken_one n (base d) l = (tt, l, tt)
taken_one n (pair t u) l = (tt, l, tt)
taken_one n (list t) l = (tt, l, tt)
taken_one n (abs t u) l = (tt, l, tt)

taken_parts : (n : ℕ) (t : TypeShape) → bound_of t ≤ n → AreTaken n (parts_taken t)
taken_parts n (hole x) l = tt
taken_parts n unit l = tt
taken_parts n (names s) l = tt
taken_parts n (base d) l = tt
taken_parts n (pair t u) l = taken_append n (taken t) (taken u) (taken_one n t (omega arith)) (taken_one n u (omega arith))
taken_parts n (list t) l = taken_one n t l
taken_parts n (abs t u) l = taken_append n (taken t) (taken u) (taken_one n t (omega arith)) (taken_one n u (omega arith))

taken_at : (n : ℕ) (us : List TypeShape) (i : ℕ) (d : TypeShape) → i < length us → AreTaken n us → IsNoHole (get_or us i d) × (bound_of (get_or us i d) ≤ n)
taken_at n [] i d l h = absurd (omega arith)
taken_at n (u ∷ us) zero d l h = (h.0, h.1)
taken_at n (u ∷ us) (suc i) d l h = taken_at n us i d (omega arith) h.2

-- An entry that stands for a shape, where its places stand for what they are filled with.
pub record IsEntry (f : Filling) (m : ℕ) (e u : TypeShape) : Type 0 where
  pub same : filled f e ≡ u
  pub bound : bound_of e ≤ m
  pub no_hole : IsNoHole e

-- the places of two parts
places_mean : (n : ℕ) (us : List TypeShape) (k : ℕ) (t u : TypeShape) → k ≡ n + length us → bound_of t ≤ n → bound_of u ≤ n
    → (meaning n (us ++ (taken t ++ taken u)) (place_in k t) ≡ t) × (meaning n (us ++ (taken t ++ taken u)) (place_in (k + length (taken t)) u) ≡ u)
    × (place_in k t < n + length (us ++ (taken t ++ taken u))) × (place_in (k + length (taken t)) u < n + length (us ++ (taken t ++ taken u)))
places_mean n us k t u e l m =
    let first = place_means n us (taken u) (us ++ (taken t ++ taken u)) k t e (sym (append_assoc us (taken t) (taken u))) l in
    let long = length-append us (taken t) in
    let second = place_means n (us ++ taken t) [] (us ++ (taken t ++ taken u)) (k + length (taken t)) u (omega arith)
    (sym (append_assoc us (taken t) (taken u)) ∙ sym (append-nil ((us ++ taken t) ++ taken u))) m in
    (first.0, second.0, first.1, second.1)

entry_means : (n : ℕ) (us : List TypeShape) (k : ℕ) (t : TypeShape) → k ≡ n + length us → IsNoHole t → bound_of t ≤ n
    → IsEntry (meaning n (us ++ parts_taken t)) (n + length (us ++ parts_taken t)) (entry_in k t) t
entry_means n us k (hole x) e w l = absurd w
entry_means n us k unit e w l = record { same = refl; bound = omega arith; no_hole = tt }
entry_means n us k (names s) e w l = record { same = refl; bound = omega arith; no_hole = tt }
entry_means n us k (base d) e w l = record { same = refl; bound = omega arith; no_hole = tt }
entry_means n us k (pair t u) e w l =
    let p = places_mean n us k t u e (omega arith) (omega arith) in
    let m = p.2 in
    let o = p.3 in
    record { same = ap₂ pair p.0 p.1; bound = omega arith; no_hole = tt }
entry_means n us k (list t) e w l =
    let p = place_means n us [] (us ++ taken t) k t e (sym (append-nil (us ++ taken t))) l in
    let m = p.1 in
    record { same = ap list p.0; bound = omega arith; no_hole = tt }
entry_means n us k (abs t u) e w l =
    let p = places_mean n us k t u e (omega arith) (omega arith) in
    let m = p.2 in
    let o = p.3 in
    record { same = ap₂ abs p.0 p.1; bound = omega arith; no_hole = tt }

-- The first shapes have entries.
abbrev pub AreEntries : Filling → ℕ → List TypeShape → List TypeShape → Type 0
AreEntries f m [] us = Unit {0}
AreEntries f m (e ∷ es) [] = ⊥
AreEntries f m (e ∷ es) (u ∷ us) = IsEntry f m e u × AreEntries f m es us

entries_grow : (f g : Filling) (m k : ℕ) → m ≤ k → ((x : ℕ) → x < m → g x ≡ f x) → (es us vs : List TypeShape) → AreEntries f m es us → AreEntries g k es (us ++ vs)
entries_grow f g m k l a [] us vs h = tt
entries_grow f g m k l a (e ∷ es) [] vs h = absurd h
entries_grow f g m k l a (e ∷ es) (u ∷ us) vs h =
    let b = h.0.bound in
    (record { same = filled_below f g e m b a ∙ h.0.same; bound = omega arith; no_hole = h.0.no_hole }, entries_grow f g m k l a es us vs h.1)

entries_push : (f : Filling) (m : ℕ) (es us : List TypeShape) (e u : TypeShape) → length es < length us → u ≡ get_or us (length es) u → AreEntries f m es us → IsEntry f m e u → AreEntries f m (es ++ e ∷ []) us
entries_push f m [] [] e u l a h i = absurd (omega arith)
entries_push f m [] (v ∷ us) e u l a h i = (subst (IsEntry f m e) a i, tt)
entries_push f m (c ∷ es) [] e u l a h i = absurd h
entries_push f m (c ∷ es) (v ∷ us) e u l a h i = (h.0, entries_push f m es us e u (omega arith) a h.1 i)

entries_most : (f : Filling) (m : ℕ) (es us : List TypeShape) → AreEntries f m es us → length es ≤ length us
entries_most f m [] us h = omega arith
entries_most f m (e ∷ es) [] h = absurd h
entries_most f m (e ∷ es) (u ∷ us) h = let k = entries_most f m es us h.1 in omega arith

entry_at : (f : Filling) (m : ℕ) (es us : List TypeShape) (i : ℕ) (d c : TypeShape) → i < length es → AreEntries f m es us → IsEntry f m (get_or es i d) (get_or us i c)
entry_at f m [] us i d c l h = absurd (omega arith)
entry_at f m (e ∷ es) [] i d c l h = absurd h
entry_at f m (e ∷ es) (u ∷ us) zero d c l h = h.0
entry_at f m (e ∷ es) (u ∷ us) (suc i) d c l h = entry_at f m es us i d c (omega arith) h.1

-- Behind the first table stand the entries of i of these shapes, and the place stands for the shape t.
pub record Loading (os : List TypeShape) (t : TypeShape) (ns us : List TypeShape) (start i : ℕ) : Type 0 where
  pub es : List TypeShape
  pub whole : ns ≡ os ++ es
  pub count : length es ≡ i
  pub shapes : AreTaken (length os) us
  pub entries : AreEntries (meaning (length os) us) (length os + length us) es us
  pub within : start < length os + length us
  pub means : meaning (length os) us start ≡ t

pub loading_begins : (os : List TypeShape) (t : TypeShape) (us : List TypeShape) (k start : ℕ) → bound_of t ≤ length os → k ≡ length os → us ≡ taken t → start ≡ place_in k t → Loading os t os us start 0
loading_begins os t us k start l e f g =
    let p = place_means (length os) [] [] us k t (omega arith) (f ∙ sym (append-nil (taken t))) l in record {
      es = [];
      whole = sym (append-nil os);
      count = refl;
      shapes = subst (AreTaken (length os)) (sym f) (taken_one (length os) t l);
      entries = tt;
      within = subst (λ x. x < length os + length us) (sym g) p.1;
      means = ap (meaning (length os) us) g ∙ p.0;
    }

pub loading_next : (os : List TypeShape) (t : TypeShape) (ns us ns' us' : List TypeShape) (start i k : ℕ) (u : TypeShape) → Loading os t ns us start i → i < length us → u ≡ get_or us i u → k ≡ length os + length us
    → us' ≡ us ++ parts_taken u → ns' ≡ ns ++ entry_in k u ∷ [] → Loading os t ns' us' start (i + 1)
loading_next os t ns us ns' us' start i k u h l at e f g =
    let n = length os in
    let vs = us ++ parts_taken u in
    let c = h.count in
    let long = length-append us (parts_taken u) in
    let same : length us' ≡ length vs = ap length f in
    let known : IsNoHole u × (bound_of u ≤ n) = subst (λ v. IsNoHole v × (bound_of v ≤ n)) (sym at) (taken_at n us i u l h.shapes) in
    let agree : (x : ℕ) → x < n + length us → meaning n vs x ≡ meaning n us x = λ x b. means_more x n us (parts_taken u) x b in
    let grown : AreEntries (meaning n vs) (n + length vs) h.es vs = entries_grow (meaning n us) (meaning n vs) (n + length us) (n + length vs) (omega arith) agree h.es us (parts_taken u) h.entries in
    let here : u ≡ get_or vs (length h.es) u = at ∙ sym (get_or_append_left us (parts_taken u) u i l) ∙ ap (λ j. get_or vs j u) (sym c) in
    let pushed : AreEntries (meaning n vs) (n + length vs) (h.es ++ entry_in k u ∷ []) vs =
    entries_push (meaning n vs) (n + length vs) h.es vs (entry_in k u) u (omega arith) here grown (entry_means n us k u e known.0 known.1) in record {
      es = h.es ++ entry_in k u ∷ [];
      whole = g ∙ ap (λ (xs : List TypeShape). xs ++ entry_in k u ∷ []) h.whole ∙ append_assoc os h.es (entry_in k u ∷ []);
      count = let m = length-append h.es (entry_in k u ∷ []) in omega arith;
      shapes = subst (AreTaken n) (sym f) (taken_append n us (parts_taken u) h.shapes (taken_parts n u known.1));
      entries = subst (λ (xs : List TypeShape). AreEntries (meaning n xs) (n + length xs) (h.es ++ entry_in k u ∷ []) xs) (sym f) pushed;
      within = let w = h.within in omega arith;
      means = ap (λ (xs : List TypeShape). meaning n xs start) f ∙ agree start h.within ∙ h.means;
    }

-- A part is smaller than what has it.
part_smaller : (f : Filling) (y : ℕ) (e : TypeShape) → IsNoHole e → occurs_in_shape y e ≡ true → size (f y) < size (filled f e)
part_smaller f y (hole x) w o = absurd w
part_smaller f y unit w o = cc
part_smaller f y (names s) w o = cc
part_smaller f y (base d) w o = cc
part_smaller f y (pair t u) w o = elim (or_cases (occurs_in_shape y t) (occurs_in_shape y u) o) [ inl i ↦ let l = size_occurs f y t i in omega arith | inr i ↦ let l = size_occurs f y u i in omega arith ]
part_smaller f y (list t) w o = let l = size_occurs f y t o in omega arith
part_smaller f y (abs t u) w o = elim (or_cases (occurs_in_shape y t) (occurs_in_shape y u) o) [ inl i ↦ let l = size_occurs f y t i in omega arith | inr i ↦ let l = size_occurs f y u i in omega arith ]

no_hole_formed : (m x : ℕ) (e : TypeShape) → IsNoHole e → bound_of e ≤ m → IsFormed m x e
no_hole_formed m x (hole y) w l = absurd w
no_hole_formed m x unit w l = l
no_hole_formed m x (names s) w l = l
no_hole_formed m x (base d) w l = l
no_hole_formed m x (pair t u) w l = l
no_hole_formed m x (list t) w l = l
no_hole_formed m x (abs t u) w l = l

below_or_past : (i j : ℕ) → (i < j) ⊎ (j ≤ i)
below_or_past i j = grind arith

-- what fits the first places, and the new ones as their shapes are filled
abbrev put : ℕ → List TypeShape → Filling → Filling
put n us f x = filled f (meaning n us x)

-- All shapes have their entries.
module _ (os es us : List TypeShape) (formed : AreFormed os) (as_many : length es ≡ length us) (entries : AreEntries (meaning (length os) us) (length os + length us) es us) where
  long : length (os ++ es) ≡ length os + length us
  long = let h = length-append os es in omega (arith, as_many)

  at_old : (x : ℕ) → x < length os → shape_at (os ++ es) x ≡ shape_at os x
  at_old x l = get_or_append_left os es (hole x) x l

  at_new : (x : ℕ) → length os ≤ x → x < length os + length us → IsEntry (meaning (length os) us) (length os + length us) (shape_at (os ++ es) x) (meaning (length os) us x)
  at_new x l m =
      let i = x - length os in
      let e : x ≡ length os + i = omega arith in
      let k : i < length es = omega (arith, as_many) in
      let entry : shape_at (os ++ es) x ≡ slice_index_or es i (hole x) = get_or-append_right os es (length os) x (hole x) refl l in
      let part : meaning (length os) us x ≡ slice_index_or us i (hole x) = means_part x (length os) us i x e in
      subst (λ t. IsEntry (meaning (length os) us) (length os + length us) t (meaning (length os) us x)) (sym entry)
      (subst (IsEntry (meaning (length os) us) (length os + length us) (slice_index_or es i (hole x))) (sym part)
      (entry_at (meaning (length os) us) (length os + length us) es us i (hole x) (hole x) k entries))

  all_formed : AreFormed (os ++ es)
  all_formed x =
      elim (below_or_past x (length os)) [
        | inl l ↦ subst (λ t. IsFormed (length (os ++ es)) x t) (sym (at_old x l)) (form_more (length os) (length (os ++ es)) x (shape_at os x) (omega (arith, long)) (formed x))
        | inr l ↦ elim (below_or_past x (length os + length us)) [
          | inl m ↦ let n = at_new x l m in let b = n.bound in no_hole_formed (length (os ++ es)) x (shape_at (os ++ es) x) n.no_hole (omega (arith, long, b))
          | inr m ↦ subst (λ t. IsFormed (length (os ++ es)) x t) (sym (at_past (os ++ es) x (omega (arith, long)))) (omega arith)
        ]
      ]

  old_fits : (f : Filling) → Fits f (os ++ es) → Fits f os
  old_fits f h x =
      elim (below_or_past x (length os)) [
        | inl l ↦ h x ∙ ap (filled f) (at_old x l)
        | inr l ↦ sym (ap (filled f) (at_past os x l))
      ]

  put_old : (f : Filling) (x : ℕ) → x < length os → put (length os) us f x ≡ f x
  put_old f x l = ap (filled f) (means_itself x (length os) us x l)

  put_fits : (f : Filling) → Fits f os → Fits (put (length os) us f) (os ++ es)
  put_fits f h x =
      elim (below_or_past x (length os)) [
        | inl l ↦
            put_old f x l ∙ h x
            ∙ sym (filled_below f (put (length os) us f) (shape_at os x) (length os) (formed_bound (length os) x (shape_at os x) l (formed x)) (put_old f))
            ∙ sym (ap (filled (put (length os) us f)) (at_old x l))
        | inr l ↦ elim (below_or_past x (length os + length us)) [
          | inl m ↦ ap (filled f) (sym (at_new x l m).same) ∙ filled_filled (meaning (length os) us) f (shape_at (os ++ es) x)
          | inr m ↦ sym (ap (filled (put (length os) us f)) (at_past (os ++ es) x (omega (arith, long))))
        ]
      ]

  extends : Extends os (os ++ es)
  extends = record {
    longer = omega (arith, long);
    formed = all_formed;
    keeps = old_fits;
    more = λ f h. (put (length os) us f, put_fits f h, put_old f);
  }

  -- what fits fills each place as what it stands for
  fits_meaning : (f : Filling) → Fits f (os ++ es) → (m x : ℕ) → size (meaning (length os) us x) < m → f x ≡ filled f (meaning (length os) us x)
  fits_meaning f h zero x s = absurd (omega arith)
  fits_meaning f h (suc m) x s =
      elim (below_or_past x (length os)) [
        | inl l ↦ sym (ap (filled f) (means_itself x (length os) us x l))
        | inr l ↦ elim (below_or_past x (length os + length us)) [
          | inl b ↦
              let n = at_new x l b in
              let same : size (filled (meaning (length os) us) (shape_at (os ++ es) x)) ≡ size (meaning (length os) us x) = ap (λ t. size t) n.same in
              h x
              ∙ filled_same f (λ y. filled f (meaning (length os) us y)) (shape_at (os ++ es) x) (λ y o.
              let k = part_smaller (meaning (length os) us) y (shape_at (os ++ es) x) n.no_hole o in
              fits_meaning f h m y (omega (arith, k, same, s)))
              ∙ sym (filled_filled (meaning (length os) us) f (shape_at (os ++ es) x))
              ∙ ap (filled f) n.same
          | inr b ↦ sym (ap (filled f) (means_past x (length os) us x b))
        ]
      ]

  loads : (t : TypeShape) (start : ℕ) → start < length os + length us → meaning (length os) us start ≡ t → Loads os t (os ++ es) start
  loads t start w e = record {
    extends = extends;
    within = omega (arith, long, w);
    stands = λ f h. fits_meaning f h (suc (size (meaning (length os) us start))) start (omega arith) ∙ ap (filled f) e;
  }

pub loading_ends : (os : List TypeShape) (t : TypeShape) (ns us : List TypeShape) (start i : ℕ) → AreFormed os → Loading os t ns us start i → length us ≤ i → Loads os t ns start
loading_ends os t ns us start i formed h l =
    let c = h.count in
    let most = entries_most (meaning (length os) us) (length os + length us) h.es us h.entries in
    subst (λ (xs : List TypeShape). Loads os t xs start) (sym h.whole) (loads os h.es us formed (omega arith) h.entries t start h.within h.means)

-- how much is to be put into the table
abbrev pub sizes : List TypeShape → ℕ
sizes us = sum_sizes size us

sizes_one : (t : TypeShape) → sizes (taken t) ≤ size t
sizes_one (hole x) = omega arith
sizes_one unit = omega arith
sizes_one (names s) = omega arith
sizes_one (base d) = omega arith
sizes_one (pair t u) = omega arith
sizes_one (list t) = omega arith
sizes_one (abs t u) = omega arith

sizes_parts : (t : TypeShape) → sizes (parts_taken t) < size t
sizes_parts (hole x) = omega arith
sizes_parts unit = omega arith
sizes_parts (names s) = omega arith
sizes_parts (base d) = omega arith
sizes_parts (pair t u) = let h = sum_append size (taken t) (taken u) in let k = sizes_one t in let l = sizes_one u in omega arith
sizes_parts (list t) = let k = sizes_one t in omega arith
sizes_parts (abs t u) = let h = sum_append size (taken t) (taken u) in let k = sizes_one t in let l = sizes_one u in omega arith

pub sizes_next : (us us' : List TypeShape) (i : ℕ) (u : TypeShape) → i < length us → u ≡ get_or us i u → us' ≡ us ++ parts_taken u → sizes (drop (i + 1) us') < sizes (drop i us)
sizes_next us us' i u l e f =
    let first : drop i us ≡ u ∷ drop (i + 1) us = drop_more us i u l ∙ ap (λ v. v ∷ drop (i + 1) us) (sym e) in
    let rest : drop (i + 1) us' ≡ drop (i + 1) us ++ parts_taken u = ap (drop (i + 1)) f ∙ drop-append-le (i + 1) us (parts_taken u) (omega arith) in
    let a : sizes (drop i us) ≡ size u + sizes (drop (i + 1) us) = ap sizes first in
    let b : sizes (drop (i + 1) us') ≡ sizes (drop (i + 1) us ++ parts_taken u) = ap sizes rest in
    let c = sum_append size (drop (i + 1) us) (parts_taken u) in
    let d = sizes_parts u in
    omega arith

-- Bounds of shapes whose parts are looked at one after the other.
abbrev pub bounds : List TypeShape → ℕ
bounds [] = 0
bounds (u ∷ us) = max (bound_of u) (bounds us)

bounds_append : (us vs : List TypeShape) → bounds (us ++ vs) ≡ max (bounds us) (bounds vs)
bounds_append [] vs = omega arith
bounds_append (u ∷ us) vs = let h = bounds_append us vs in omega arith

bounds_parts : (t : TypeShape) → bound_of t ≡ max (own_bound t) (bounds (parts_of t))
bounds_parts (hole x) = omega arith
bounds_parts unit = omega arith
bounds_parts (names s) = omega arith
bounds_parts (base d) = omega arith
bounds_parts (pair t u) = omega arith
bounds_parts (list t) = omega arith
bounds_parts (abs t u) = omega arith

pub sizes_of_parts : (t : TypeShape) → sizes (parts_of t) < size t
sizes_of_parts (hole x) = omega arith
sizes_of_parts unit = omega arith
sizes_of_parts (names s) = omega arith
sizes_of_parts (base d) = omega arith
sizes_of_parts (pair t u) = omega arith
sizes_of_parts (list t) = omega arith
sizes_of_parts (abs t u) = omega arith

-- the bound so far with that of the part in hand, whose parts wait
bounds_wait : (ws next : List (Bor Shape)) (t : TypeShape) (bound own most whole : ℕ) → lent_shapes next ≡ lent_shapes ws ++ parts_of t → own ≡ own_bound t → most ≡ max bound own
    → max bound (max (bounds (lent_shapes ws)) (bound_of t)) ≡ whole → max most (bounds (lent_shapes next)) ≡ whole
bounds_wait ws next t bound own most whole f g h i =
    let c : bounds (lent_shapes next) ≡ bounds (lent_shapes ws ++ parts_of t) = ap bounds f in
    let d = bounds_append (lent_shapes ws) (parts_of t) in
    let p = bounds_parts t in
    omega arith

pub bounds_next : (ws next rs : List (Bor Shape)) (t : TypeShape) (r : Bor Shape) (bound own most whole : ℕ) → next ≡ rs ++ r ∷ [] → lent_shapes next ≡ lent_shapes ws ++ parts_of t → own ≡ own_bound t → most ≡ max bound own
    → max bound (max (bounds (lent_shapes ws)) (bound_of t)) ≡ whole → max most (max (bounds (lent_shapes rs)) (bound_of (shape_of r.now))) ≡ whole
bounds_next ws next rs t r bound own most whole e f g h i =
    let a = bounds_wait ws next t bound own most whole f g h i in
    let b : bounds (lent_shapes next) ≡ bounds (lent_shapes rs ++ shape_of r.now ∷ []) = ap bounds (last_lent shape_of rs next r e) in
    let c = bounds_append (lent_shapes rs) (shape_of r.now ∷ []) in
    omega arith
