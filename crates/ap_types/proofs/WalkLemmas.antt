-- Walks over tables.
use Rattle.std.proofs.Common.{◌≡◌, ◌<◌, ◌≤◌, ◌+◌, ◌*◌, ◌⊎◌, ◌∙◌, ℕ, zero, suc, true, false, List, [], ◌∷◌, ◌++◌, length, set, replicate, get_or, refl, sym, ap, inl, inr, subst, arith, length-append, mul-le-mul}
use Rattle.std.proofs.lemmas.Bool.Decides.{eqb_tells}
use Rattle.std.proofs.lemmas.List.{get_or-set_same, get_or-set_other, get_or_append_left, get_or_push, length-replicate}
use Rattle.ap_defs.specs.Types.{TypeShape, hole, unit, names, base, pair, list, abs}
use Rattle.ap_types.specs.declared.walking.Mark.{Mark}
use Rattle.ap_types.specs.declared.walking.Mark.TheVariants as marks
use Rattle.ap_types.specs.Equations.{Filling, filled, bound_of}
use Rattle.ap_types.specs.Solving.{occurs_in_shape, shape_at, size}
use Rattle.ap_types.specs.Triangular.{read, value_of, Fits, IsFormed, AreFormed, IsSettledTable}
use Rattle.ap_types.specs.Joining.{count_below}
use Rattle.ap_types.specs.Walking.{is_part, IsPart, walk_mark_at, is_left, is_unvisited, IsPath, Stands, ArePlacesBelow, IsWalk, StayLeft, new_count, PassesAlong, HasLeft, NoneFits}
use Rattle.ap_types.proofs.BooleanLemmas.{or_cases}
use Rattle.ap_types.proofs.CountLemmas.{count_less, count_most, count_grows}
use Rattle.ap_types.proofs.ShapeLemmas.{size_occurs, occurs_bound, filled_same, number_same}
use Rattle.ap_types.proofs.TableLemmas.{at_past}
use Rattle.ap_types.proofs.LinkLemmas.{equal_or_not}

-- A place that fits weighs more than its parts.
abbrev pub weight : Filling → ℕ → ℕ → ℕ
weight f n x = size (f x) * n + x

more_size : (a b n x y : ℕ) → a < b → x < n → a * n + x < b * n + y
more_size a b n x y l m = let h : suc a * n ≤ b * n = mul-le-mul l (le_refl n) in omega arith
  where
    le_refl : (k : ℕ) → k ≤ k
    le_refl k = omega arith

part_weight : (f : Filling) (n x c : ℕ) (t : TypeShape) → x < n → IsFormed n x t → f x ≡ filled f t → is_part x t c ≡ true → (weight f n c < weight f n x) × (c < n)
part_weight f n x c (hole y) l i h p =
    elim (eqb_tells x y) [
      | inl w ↦ let q = (rw w.0 at p) in cc
      | inr w ↦
          let q = (rw w.0 at p) in
          let e : c ≡ y = number_same c y q in
          let s : size (f c) ≡ size (f x) = ap (λ z. size (f z)) e ∙ ap (λ u. size u) (sym h) in
          let d = w.1 in
          let b : c < x = omega arith in
          let m : size (f c) * n ≡ size (f x) * n = ap (λ k. k * n) s in
          (omega arith, omega arith)
    ]
part_weight f n x c unit l i h p = cc
part_weight f n x c (names s) l i h p = cc
part_weight f n x c (base d) l i h p = cc
part_weight f n x c (pair t u) l i h p =
    let b = occurs_bound c (pair t u) p in
    let k : bound_of (pair t u) ≤ n = i in
    let s : size (f x) ≡ size (filled f (pair t u)) = ap (λ v. size v) h in
    let o : size (f c) < size (filled f (pair t u)) =
    elim (or_cases (occurs_in_shape c t) (occurs_in_shape c u) p) [ inl j ↦ let z = size_occurs f c t j in omega arith | inr j ↦ let z = size_occurs f c u j in omega arith ] in
    (more_size (size (f c)) (size (f x)) n c x (omega arith) (omega arith), omega arith)
part_weight f n x c (list t) l i h p =
    let b = occurs_bound c (list t) p in
    let k : bound_of (list t) ≤ n = i in
    let s : size (f x) ≡ size (filled f (list t)) = ap (λ v. size v) h in
    let z = size_occurs f c t p in
    (more_size (size (f c)) (size (f x)) n c x (omega arith) (omega arith), omega arith)
part_weight f n x c (abs t u) l i h p =
    let b = occurs_bound c (abs t u) p in
    let k : bound_of (abs t u) ≤ n = i in
    let s : size (f x) ≡ size (filled f (abs t u)) = ap (λ v. size v) h in
    let o : size (f c) < size (filled f (abs t u)) =
    elim (or_cases (occurs_in_shape c t) (occurs_in_shape c u) p) [ inl j ↦ let z = size_occurs f c t j in omega arith | inr j ↦ let z = size_occurs f c u j in omega arith ] in
    (more_size (size (f c)) (size (f x)) n c x (omega arith) (omega arith), omega arith)

pub part_less : (f : Filling) (ts : List TypeShape) (x c : ℕ) → AreFormed ts → Fits f ts → x < length ts → IsPart ts x c → (weight f (length ts) c < weight f (length ts) x) × (c < length ts)
part_less f ts x c h k l p = part_weight f (length ts) x c (shape_at ts x) l (h x) (k x) p

-- a part is a place, whatever fits
part_place : (n x c : ℕ) (t : TypeShape) → x < n → IsFormed n x t → is_part x t c ≡ true → c < n
part_place n x c (hole y) l i p =
    elim (eqb_tells x y) [ inl w ↦ let q = (rw w.0 at p) in cc | inr w ↦ let q = (rw w.0 at p) in let e : c ≡ y = number_same c y q in omega arith ]
part_place n x c unit l i p = cc
part_place n x c (names s) l i p = cc
part_place n x c (base d) l i p = cc
part_place n x c (pair t u) l i p = let b = occurs_bound c (pair t u) p in let k : bound_of (pair t u) ≤ n = i in omega arith
part_place n x c (list t) l i p = let b = occurs_bound c (list t) p in let k : bound_of (list t) ≤ n = i in omega arith
part_place n x c (abs t u) l i p = let b = occurs_bound c (abs t u) p in let k : bound_of (abs t u) ≤ n = i in omega arith

-- Paths.
path_front : (ts : List TypeShape) (xs : List ℕ) (x : ℕ) → IsPath ts (xs ++ x ∷ []) → IsPath ts xs
path_front ts [] x h = tt
path_front ts (y ∷ []) x h = tt
path_front ts (y ∷ z ∷ zs) x h = (h.0, path_front ts (z ∷ zs) x h.1)

path_more : (ts : List TypeShape) (xs : List ℕ) (x c : ℕ) → IsPath ts (xs ++ x ∷ []) → IsPart ts x c → IsPath ts ((xs ++ x ∷ []) ++ c ∷ [])
path_more ts [] x c h p = (p, tt)
path_more ts (y ∷ []) x c h p = (h.0, (p, tt))
path_more ts (y ∷ z ∷ zs) x c h p = (h.0, path_more ts (z ∷ zs) x c h.1 p)

below_front : (n : ℕ) (xs : List ℕ) (x : ℕ) → ArePlacesBelow n (xs ++ x ∷ []) → ArePlacesBelow n xs × (x < n)
below_front n [] x h = (tt, h.0)
below_front n (y ∷ ys) x h = let k = below_front n ys x h.1 in ((h.0, k.0), k.1)

below_more_path : (n : ℕ) (xs : List ℕ) (x : ℕ) → ArePlacesBelow n xs → x < n → ArePlacesBelow n (xs ++ x ∷ [])
below_more_path n [] x h l = (l, tt)
below_more_path n (y ∷ ys) x h l = (h.0, below_more_path n ys x h.1 l)

stands_more : (y x : ℕ) (xs : List ℕ) → Stands y xs → Stands y (xs ++ x ∷ [])
stands_more y x [] h = absurd h
stands_more y x (z ∷ zs) h = elim h [ inl e ↦ inl e | inr k ↦ inr (stands_more y x zs k) ]

stands_last : (x : ℕ) (xs : List ℕ) → Stands x (xs ++ x ∷ [])
stands_last x [] = inl refl
stands_last x (z ∷ zs) = inr (stands_last x zs)

stands_front : (y x : ℕ) (xs : List ℕ) → Stands y (xs ++ x ∷ []) → (y ≡ x) ⊎ Stands y xs
stands_front y x [] h = elim h [ inl e ↦ inl e | inr k ↦ absurd k ]
stands_front y x (z ∷ zs) h = elim h [ inl e ↦ inr (inl e) | inr k ↦ elim (stands_front y x zs k) [ inl e ↦ inl e | inr s ↦ inr (inr s) ] ]

-- what stands on a path weighs no less than its last place
module _ (f : Filling) (ts : List TypeShape) (formed : AreFormed ts) (fits : Fits f ts) where
  first_heavy : (y : ℕ) (xs : List ℕ) (x : ℕ) → ArePlacesBelow (length ts) (y ∷ (xs ++ x ∷ [])) → IsPath ts (y ∷ (xs ++ x ∷ [])) → weight f (length ts) x < weight f (length ts) y
  first_heavy y [] x b p = (part_less f ts y x formed fits b.0 p.0).0
  first_heavy y (z ∷ zs) x b p = let a = first_heavy z zs x b.1 p.1 in let c = (part_less f ts y z formed fits b.0 p.0).0 in omega arith

  pub path_heavy : (xs : List ℕ) (x y : ℕ) → ArePlacesBelow (length ts) (xs ++ x ∷ []) → IsPath ts (xs ++ x ∷ []) → Stands y (xs ++ x ∷ []) → weight f (length ts) x ≤ weight f (length ts) y
  path_heavy [] x y b p s = elim s [ inl e ↦ subst (λ z. weight f (length ts) x ≤ weight f (length ts) z) (sym e) (omega arith) | inr k ↦ absurd k ]
  path_heavy (z ∷ []) x y b p s =
      elim s [
        | inl e ↦ let l = first_heavy z [] x b p in subst (λ v. weight f (length ts) x ≤ weight f (length ts) v) (sym e) (omega arith)
        | inr k ↦ path_heavy [] x y b.1 tt k
      ]
  path_heavy (z ∷ w ∷ zs) x y b p s =
      elim s [
        | inl e ↦ let l = first_heavy z (w ∷ zs) x b p in subst (λ v. weight f (length ts) x ≤ weight f (length ts) v) (sym e) (omega arith)
        | inr k ↦ path_heavy (w ∷ zs) x y b.1 p.1 k
      ]

-- a part that stands on the path makes a cycle
pub cycle_never : (ts : List TypeShape) (xs : List ℕ) (x c : ℕ) → AreFormed ts → ArePlacesBelow (length ts) (xs ++ x ∷ []) → IsPath ts (xs ++ x ∷ []) → IsPart ts x c → Stands c (xs ++ x ∷ []) → NoneFits ts
cycle_never ts xs x c h b p q s f k =
    let a = path_heavy f ts h k xs x c b p s in
    let l = (below_front (length ts) xs x b).1 in
    let d = (part_less f ts x c h k l q).0 in
    omega arith

-- Marks.
pub mark_same : (ms : List Mark) (x : ℕ) (m : Mark) → x < length ms → walk_mark_at (set ms x m) x ≡ m
mark_same ms x m l = get_or-set_same ms x m marks.New l

pub mark_other : (ms : List Mark) (x y : ℕ) (m : Mark) → (y ≡ x → ⊥) → walk_mark_at (set ms x m) y ≡ walk_mark_at ms y
mark_other ms x y m d = get_or-set_other ms x y m marks.New d

length_marks : (ms : List Mark) (x : ℕ) (m : Mark) → length (set ms x m) ≡ length ms
length_marks [] x m = refl
length_marks (n ∷ ms) zero m = refl
length_marks (n ∷ ms) (suc x) m = ap suc (length_marks ms x m)

left_not_new : (m : Mark) → is_left m ≡ true → is_unvisited m ≡ false
left_not_new marks.New h = cc
left_not_new marks.Entered h = refl
left_not_new marks.Left h = refl

new_or_entered : (m : Mark) → is_left m ≡ false → is_unvisited m ≡ false → m ≡ marks.Entered
new_or_entered marks.New h k = cc
new_or_entered marks.Entered h k = refl
new_or_entered marks.Left h k = cc

-- A step along a path.
module _ (ts : List TypeShape) (ms : List Mark) (order : List ℕ) (front : List ℕ) (last : ℕ) (walk : IsWalk ts ms order (front ++ last ∷ [])) where
  pub last_within : last < length ts
  last_within = (below_front (length ts) front last walk.within).1

  pub passes_left : is_left (walk_mark_at ms last) ≡ true → PassesAlong ts ms (front ++ last ∷ []) ms order front
  passes_left h = record {
    walk = record {
      as_long = walk.as_long;
      within = (below_front (length ts) front last walk.within).0;
      is_path = path_front ts front last walk.is_path;
      entered = λ x e. elim (stands_front x last front (walk.entered x e)) [
        | inl i ↦ let j : is_left (walk_mark_at ms last) ≡ false = subst (λ y. is_left (walk_mark_at ms y) ≡ false) i (ap is_left e) in cc
        | inr s ↦ s
      ];
      marked = walk.marked;
      placed = walk.placed;
      ordered = walk.ordered;
      counted = walk.counted;
    };
    stay = λ x e. e;
    there = λ x s. elim (stands_front x last front s) [ inl i ↦ inl (ap (λ y. is_left (walk_mark_at ms y)) i ∙ h) | inr k ↦ inr k ];
    fewer = let l = length-append front (last ∷ []) in omega arith;
  }

  -- the last place is left, after its parts
  module _ (old : is_left (walk_mark_at ms last) ≡ false) (within : last < length ms) where
    abbrev pub after_leave : List Mark
    after_leave = set ms last marks.Left

    here : walk_mark_at after_leave last ≡ marks.Left
    here = mark_same ms last marks.Left within

    there : (x : ℕ) → (x ≡ last → ⊥) → walk_mark_at after_leave x ≡ walk_mark_at ms x
    there x d = mark_other ms last x marks.Left d

    not_last : (x : ℕ) → is_left (walk_mark_at ms x) ≡ true → x ≡ last → ⊥
    not_last x e i = let j : is_left (walk_mark_at ms last) ≡ true = subst (λ y. is_left (walk_mark_at ms y) ≡ true) i e in cc

    stay_left : StayLeft ms after_leave
    stay_left x e = ap is_left (there x (not_last x e)) ∙ e

    room : length order < length ms
    room =
        let c = count_less (λ x. is_left (walk_mark_at ms x)) (λ x. true) (length ms) (λ x l e. refl) last within old refl in
        let m = count_most (λ x. true) (length ms) in
        let k = walk.counted in
        omega arith

    counted_more : length (order ++ last ∷ []) ≤ count_below (λ x. is_left (walk_mark_at after_leave x)) (length after_leave)
    counted_more =
        let c = count_less (λ x. is_left (walk_mark_at ms x)) (λ x. is_left (walk_mark_at after_leave x)) (length ms) (λ x l e. stay_left x e) last within old (ap is_left here) in
        let k = walk.counted in
        let long = length-append order (last ∷ []) in
        rw (length_marks ms last marks.Left) (omega arith)

    new_before : (x : ℕ) → is_unvisited (walk_mark_at after_leave x) ≡ true → is_unvisited (walk_mark_at ms x) ≡ true
    new_before x e =
        elim (equal_or_not x last) [
          | inl i ↦
              let j : is_unvisited (walk_mark_at after_leave last) ≡ true = subst (λ y. is_unvisited (walk_mark_at after_leave y) ≡ true) i e in
              let k : is_unvisited (walk_mark_at after_leave last) ≡ false = ap is_unvisited here in
              cc
          | inr d ↦ ap is_unvisited (sym (there x d)) ∙ e
        ]

    no_more_new : new_count after_leave ≤ new_count ms
    unfolding new_count
    no_more_new =
        rw (length_marks ms last marks.Left) (count_grows (λ x. is_unvisited (walk_mark_at after_leave x)) (λ x. is_unvisited (walk_mark_at ms x)) (length ms) (λ x l e. new_before x e))

    below_or_last : (k n : ℕ) → k < n + 1 → (k < n) ⊎ (k ≡ n)
    below_or_last k n l = grind arith

    marked_more : (k : ℕ) → k < length (order ++ last ∷ []) → is_left (walk_mark_at after_leave (get_or (order ++ last ∷ []) k 0)) ≡ true
    marked_more k b =
        let long = length-append order (last ∷ []) in
        elim (below_or_last k (length order) (omega arith)) [
          | inl a ↦ ap (λ y. is_left (walk_mark_at after_leave y)) (get_or_append_left order (last ∷ []) 0 k a) ∙ stay_left (get_or order k 0) (walk.marked k a)
          | inr e ↦ ap (λ y. is_left (walk_mark_at after_leave y)) (get_or_push order last 0 k (sym e)) ∙ ap is_left here
        ]

    placed_more : (x : ℕ) → is_left (walk_mark_at after_leave x) ≡ true → (k : ℕ) × (k < length (order ++ last ∷ [])) × (get_or (order ++ last ∷ []) k 0 ≡ x)
    placed_more x e =
        let long = length-append order (last ∷ []) in
        elim (equal_or_not x last) [
          | inl i ↦ (length order, omega arith, get_or_push order last 0 (length order) refl ∙ sym i)
          | inr d ↦
              let p = walk.placed x (ap is_left (sym (there x d)) ∙ e) in
              let b = p.1 in
              (p.0, omega arith, get_or_append_left order (last ∷ []) 0 p.0 b ∙ p.2)
        ]

    ordered_more : ((c : ℕ) → IsPart ts last c → is_left (walk_mark_at ms c) ≡ true) → (k c : ℕ) → k < length (order ++ last ∷ []) → IsPart ts (get_or (order ++ last ∷ []) k 0) c
        → (j : ℕ) × (j < k) × (get_or (order ++ last ∷ []) j 0 ≡ c)
    ordered_more parts k c l p =
        let long = length-append order (last ∷ []) in
        elim (below_or_last k (length order) (omega arith)) [
          | inl a ↦
              let o = walk.ordered k c a (subst (λ y. IsPart ts y c) (get_or_append_left order (last ∷ []) 0 k a) p) in
              let b = o.1 in
              (o.0, o.1, get_or_append_left order (last ∷ []) 0 o.0 (omega (arith, a, b)) ∙ o.2)
          | inr e ↦
              let o = walk.placed c (parts c (subst (λ y. IsPart ts y c) (get_or_push order last 0 k (sym e)) p)) in
              let b = o.1 in
              (o.0, omega (arith, b, e), get_or_append_left order (last ∷ []) 0 o.0 b ∙ o.2)
        ]

    pub passes_back : ((c : ℕ) → IsPart ts last c → is_left (walk_mark_at ms c) ≡ true) → PassesAlong ts ms (front ++ last ∷ []) after_leave (order ++ last ∷ []) front
    passes_back parts = record {
      walk = record {
        as_long = length_marks ms last marks.Left ∙ walk.as_long;
        within = (below_front (length ts) front last walk.within).0;
        is_path = path_front ts front last walk.is_path;
        entered = λ x e. elim (equal_or_not x last) [
          | inl i ↦ let j : walk_mark_at after_leave last ≡ marks.Entered = subst (λ y. walk_mark_at after_leave y ≡ marks.Entered) i e in let k = here in cc
          | inr d ↦ elim (stands_front x last front (walk.entered x (sym (there x d) ∙ e))) [ inl i ↦ absurd (d i) | inr s ↦ s ]
        ];
        marked = marked_more;
        placed = placed_more;
        ordered = ordered_more parts;
        counted = counted_more;
      };
      stay = stay_left;
      there = λ x s. elim (stands_front x last front s) [ inl i ↦ inl (ap (λ y. is_left (walk_mark_at after_leave y)) i ∙ ap is_left here) | inr k ↦ inr k ];
      fewer = let l = length-append front (last ∷ []) in let m = no_more_new in omega arith;
    }

  -- a new part of the last place is entered
  module _ (c : ℕ) (formed : AreFormed ts) (part : IsPart ts last c) (fresh : is_unvisited (walk_mark_at ms c) ≡ true) where
    abbrev pub after_enter : List Mark
    after_enter = set ms c marks.Entered

    pub part_within : c < length ms
    part_within = let p = part_place (length ts) last c (shape_at ts last) last_within (formed last) part in let l = walk.as_long in omega arith

    in_part : walk_mark_at after_enter c ≡ marks.Entered
    in_part = mark_same ms c marks.Entered part_within

    elsewhere : (x : ℕ) → (x ≡ c → ⊥) → walk_mark_at after_enter x ≡ walk_mark_at ms x
    elsewhere x d = mark_other ms c x marks.Entered d

    not_part : (x : ℕ) → is_left (walk_mark_at ms x) ≡ true → x ≡ c → ⊥
    not_part x e i =
        let j : is_left (walk_mark_at ms c) ≡ true = subst (λ y. is_left (walk_mark_at ms y) ≡ true) i e in
        let k = left_not_new (walk_mark_at ms c) j in
        cc

    stays : StayLeft ms after_enter
    stays x e = ap is_left (elsewhere x (not_part x e)) ∙ e

    counted_still : length order ≤ count_below (λ x. is_left (walk_mark_at after_enter x)) (length after_enter)
    counted_still =
        let g = count_grows (λ x. is_left (walk_mark_at ms x)) (λ x. is_left (walk_mark_at after_enter x)) (length ms) (λ x l e. stays x e) in
        let k = walk.counted in
        rw (length_marks ms c marks.Entered) (omega arith)

    new_elsewhere : (x : ℕ) → is_unvisited (walk_mark_at after_enter x) ≡ true → is_unvisited (walk_mark_at ms x) ≡ true
    new_elsewhere x e =
        elim (equal_or_not x c) [
          | inl i ↦ ap (λ y. is_unvisited (walk_mark_at ms y)) i ∙ fresh
          | inr d ↦ ap is_unvisited (sym (elsewhere x d)) ∙ e
        ]

    fewer_new : new_count after_enter < new_count ms
    unfolding new_count
    fewer_new =
        rw (length_marks ms c marks.Entered) (count_less (λ x. is_unvisited (walk_mark_at after_enter x)) (λ x. is_unvisited (walk_mark_at ms x)) (length ms) (λ x l e. new_elsewhere x e) c part_within
        (ap is_unvisited in_part) fresh)

    pub passes_on : PassesAlong ts ms (front ++ last ∷ []) after_enter order ((front ++ last ∷ []) ++ c ∷ [])
    passes_on = record {
      walk = record {
        as_long = length_marks ms c marks.Entered ∙ walk.as_long;
        within = below_more_path (length ts) (front ++ last ∷ []) c walk.within (let p = part_within in let l = walk.as_long in omega arith);
        is_path = path_more ts front last c walk.is_path part;
        entered = λ x e. elim (equal_or_not x c) [
          | inl i ↦ subst (λ y. Stands y ((front ++ last ∷ []) ++ c ∷ [])) (sym i) (stands_last c (front ++ last ∷ []))
          | inr d ↦ stands_more x c (front ++ last ∷ []) (walk.entered x (sym (elsewhere x d) ∙ e))
        ];
        marked = λ k b. stays (get_or order k 0) (walk.marked k b);
        placed = λ x e. elim (equal_or_not x c) [
          | inl i ↦
              let j : is_left (walk_mark_at after_enter c) ≡ true = subst (λ y. is_left (walk_mark_at after_enter y) ≡ true) i e in
              let h : is_left (walk_mark_at after_enter c) ≡ false = ap is_left in_part in
              cc
          | inr d ↦ walk.placed x (ap is_left (sym (elsewhere x d)) ∙ e)
        ];
        ordered = walk.ordered;
        counted = counted_still;
      };
      stay = stays;
      there = λ x s. inr (stands_more x c (front ++ last ∷ []) s);
      fewer = let l = length-append (front ++ last ∷ []) (c ∷ []) in let m = fewer_new in omega arith;
    }

  pub refuses : (c : ℕ) → AreFormed ts → IsPart ts last c → is_left (walk_mark_at ms c) ≡ false → is_unvisited (walk_mark_at ms c) ≡ false → NoneFits ts
  refuses c formed part l n = cycle_never ts front last c formed walk.within walk.is_path part (walk.entered c (new_or_entered (walk_mark_at ms c) l n))

-- The steps from a place.
pub record Explores (ts : List TypeShape) (old : List Mark) (start : ℕ) (ms : List Mark) (order : List ℕ) (path : List ℕ) : Type 0 where
  pub walk : IsWalk ts ms order path
  pub stay : StayLeft old ms
  pub start_there : (is_left (walk_mark_at ms start) ≡ true) ⊎ Stands start path

pub explores_first : (ts : List TypeShape) (ms : List Mark) (order : List ℕ) (start : ℕ) → IsWalk ts ms order [] → start < length ts → Explores ts ms start ms order (start ∷ [])
explores_first ts ms order start w l = record {
  walk = record {
    as_long = w.as_long;
    within = (l, tt);
    is_path = tt;
    entered = λ x e. absurd (w.entered x e);
    marked = w.marked;
    placed = w.placed;
    ordered = w.ordered;
    counted = w.counted;
  };
  stay = λ x e. e;
  start_there = inr (inl refl);
}

pub explores_on : (ts : List TypeShape) (old ms new : List Mark) (start : ℕ) (order order' path path' : List ℕ) → Explores ts old start ms order path → PassesAlong ts ms path new order' path'
    → Explores ts old start new order' path'
explores_on ts old ms new start order order' path path' h p = record {
  walk = p.walk;
  stay = λ x e. p.stay x (h.stay x e);
  start_there = elim h.start_there [ inl e ↦ inl (p.stay start e) | inr s ↦ p.there start s ];
}

pub explores_end : (ts : List TypeShape) (old ms : List Mark) (start : ℕ) (order : List ℕ) → Explores ts old start ms order [] → HasLeft ts old start ms order
explores_end ts old ms start order h = record {
  walk = h.walk;
  stay = h.stay;
  here = elim h.start_there [ inl e ↦ e | inr s ↦ absurd s ];
}

-- A place that was left already, and one whose parts were.
pub left_already : (ts : List TypeShape) (ms : List Mark) (order : List ℕ) (start : ℕ) → IsWalk ts ms order [] → is_left (walk_mark_at ms start) ≡ true → HasLeft ts ms start ms order
left_already ts ms order start w e = record { walk = w; stay = λ x h. h; here = e }

pub leaves_at_once : (ts : List TypeShape) (ms ns : List Mark) (order order' : List ℕ) (start : ℕ) → IsWalk ts ms order [] → start < length ts → is_left (walk_mark_at ms start) ≡ false
    → ((c : ℕ) → IsPart ts start c → is_left (walk_mark_at ms c) ≡ true) → ns ≡ set ms start marks.Left → order' ≡ order ++ start ∷ [] → HasLeft ts ms start ns order'
leaves_at_once ts ms ns order order' start w l e parts f g =
    let first = explores_first ts ms order start w l in
    let long = w.as_long in
    let step = passes_back ts ms order [] start first.walk e (omega (arith, l, long)) parts in
    let now = set ms start marks.Left in
    let last = explores_end ts ms now start (order ++ start ∷ []) (explores_on ts ms ms now start order (order ++ start ∷ []) (start ∷ []) [] first step) in
    subst (λ (xs : List Mark). HasLeft ts ms start xs order') (sym f) (subst (λ (os : List ℕ). HasLeft ts ms start now os) (sym g) last)

-- A walk begins.
pub new_everywhere : (n x : ℕ) → walk_mark_at (replicate n marks.New) x ≡ marks.New
new_everywhere zero x = refl
new_everywhere (suc n) zero = refl
new_everywhere (suc n) (suc x) = new_everywhere n x

pub walk_begins : (ts : List TypeShape) (ms : List Mark) → ms ≡ replicate (length ts) marks.New → IsWalk ts ms [] []
walk_begins ts ms e =
    let fresh : (x : ℕ) → walk_mark_at ms x ≡ marks.New = λ x. ap (λ (ns : List Mark). walk_mark_at ns x) e ∙ new_everywhere (length ts) x in record {
      as_long = ap length e ∙ length-replicate (length ts) marks.New;
      within = tt;
      is_path = tt;
      entered = λ x h. let f = fresh x in cc;
      marked = λ k h. absurd (omega (arith, h));
      placed = λ x h. let f : is_left (walk_mark_at ms x) ≡ false = ap is_left (fresh x) in cc;
      ordered = λ k c h p. absurd (omega (arith, h));
      counted = omega arith;
    }

-- What was left settles the table.
pub open_or_parts : (x : ℕ) (t : TypeShape) → (t ≡ hole x) ⊎ ((c : ℕ) → occurs_in_shape c t ≡ true → is_part x t c ≡ true)
open_or_parts x (hole y) = elim (eqb_tells x y) [ inl w ↦ inl (ap hole (sym w.1)) | inr w ↦ inr (λ c o. rw w.0 o) ]
open_or_parts x unit = inr (λ c o. o)
open_or_parts x (names s) = inr (λ c o. o)
open_or_parts x (base d) = inr (λ c o. o)
open_or_parts x (pair t u) = inr (λ c o. o)
open_or_parts x (list t) = inr (λ c o. o)
open_or_parts x (abs t u) = inr (λ c o. o)

pub read_open : (ts : List TypeShape) (m x : ℕ) → shape_at ts x ≡ hole x → read ts m x ≡ hole x
read_open ts zero x e = refl
read_open ts (suc m) x e = ap (filled (read ts m)) e ∙ read_open ts m x e

read_settles : (ts : List TypeShape) (ms : List Mark) (order : List ℕ) → IsWalk ts ms order [] → (m k : ℕ) → k < length order → k < m → read ts m (get_or order k 0) ≡ read ts (suc m) (get_or order k 0)
read_settles ts ms order w zero k b l = absurd (omega arith)
read_settles ts ms order w (suc m) k b l =
    let x = get_or order k 0 in
    elim (open_or_parts x (shape_at ts x)) [
      | inl o ↦ read_open ts (suc m) x o ∙ sym (read_open ts (suc (suc m)) x o)
      | inr p ↦ filled_same (read ts m) (read ts (suc m)) (shape_at ts x) (λ c o.
          let r = w.ordered k c b (p c o) in
          let j = r.1 in
          subst (λ y. read ts m y ≡ read ts (suc m) y) r.2 (read_settles ts ms order w m r.0 (omega (arith, b, j)) (omega (arith, l, j))))
    ]

pub walk_settles : (ts : List TypeShape) (ms : List Mark) (order : List ℕ) → AreFormed ts → IsWalk ts ms order [] → ((x : ℕ) → x < length ts → is_left (walk_mark_at ms x) ≡ true) → IsSettledTable ts
walk_settles ts ms order h w a = record {
  formed = h;
  fits = λ x. elim (below_or_past x (length ts)) [
    | inl l ↦
        let k = w.placed x (a x l) in
        let b = k.1 in
        let c = w.counted in
        let d = count_most (λ y. is_left (walk_mark_at ms y)) (length ms) in
        let e = w.as_long in
        subst (λ y. read ts (length ts) y ≡ read ts (suc (length ts)) y) k.2 (read_settles ts ms order w (length ts) k.0 b (omega (arith, b, c, d, e)))
    | inr l ↦ sym (ap (filled (value_of ts)) (at_past ts x l))
  ];
}
  where
    below_or_past : (i j : ℕ) → (i < j) ⊎ (j ≤ i)
    below_or_past i j = grind arith

-- The same for what the program returns.
pub passes_as : {ms' : List Mark} {order' path' : List ℕ} → (ts : List TypeShape) (old : List Mark) (path : List ℕ) (ms : List Mark) (order path'' : List ℕ) → ms ≡ ms' → order ≡ order' → path'' ≡ path'
    → PassesAlong ts old path ms' order' path' → PassesAlong ts old path ms order path''
passes_as {ms' = ms'} {order' = order'} {path' = path'} ts old path ms order path'' e f g h =
    subst (λ (ns : List Mark). PassesAlong ts old path ns order path'') (sym e)
    (subst (λ (os : List ℕ). PassesAlong ts old path ms' os path'') (sym f) (subst (λ (xs : List ℕ). PassesAlong ts old path ms' order' xs) (sym g) h))
