-- What is wanted inside a pair, an application and an abstraction.
use Rattle.std.proofs.Common.{◌≡◌, ◌<◌, ◌≤◌, ◌+◌, ◌∙◌, ℕ, List, [], ◌∷◌, length, refl, sym, ap, subst, arith, Option, Some, None}
use Rattle.ap_defs.specs.Types.{NominalType, NominalConstructor, TypeShape, hole, unit, names, base, pair, list, abs}
use Rattle.ap_defs.specs.Types as types
use Rattle.ap_defs.specs.Typing as typing
use Rattle.ap_defs.specs.Typing.{Want, one, arguments}
use Rattle.ap_kinds.specs.declared.kinds.IdentKind.{IdentKind}
use Rattle.ap_kinds.specs.Systems.{EquationSystem, with_hole, system_refused, shape_of_type}
use Rattle.ap_kinds.specs.Gathering.{Wanting, whole, typed, nothing, more, cell, typed_cell, wanting_all, near_for, sides, sides_of_hole, new_sides, new_sides_at, cell_if, cell_wanted, inside_element, inside_cell, new_element, inside_declared}
use Rattle.ap_types.specs.Equations.{filled, bound_of}
use Rattle.ap_types.specs.Solving.{shape_at}
use Rattle.ap_types.specs.Triangular.{IsFormed}
use Rattle.ap_types.specs.Growing.{pair_in, list_in}
use Rattle.ap_types.proofs.GrowLemmas.{pair_is, list_is, near_is, base_below}
use Rattle.ap_kinds.proofs.Assignments.{Assign, filling, closed, Agree, closed_opened, closed_same, opened_injective, agree_on}
use Rattle.ap_kinds.proofs.IdentLemmas.{fits_same}
use Rattle.ap_kinds.proofs.Inversions.{Splits, Declares, IsOf}
use Rattle.ap_kinds.proofs.Gathers.{IsMade, IsShapeOf, Suits, Meets, want_by, grows_refl, grows_on, shape_grows, suits_grows, want_same, below_idents, gathers_equate, gathers_refused, Opens, OpensFor, opens_for, opens_for_map}
use Rattle.ap_kinds.proofs.Steps.{made_hole, grows_hole, hole_filled, hole_shape, opened_shape, gathers_meet}

-- Pairs.
abbrev SidesOf : Wanting → Assign → Want → Want → Type 0
SidesOf w φ a b = Splits (want_by φ w) a b

split_one : (c : NominalType) (a b : Want) → Splits (one c) a b → (x : NominalType) × (y : NominalType) × (c ≡ types.pair x y) × (a ≡ one x) × (b ≡ one y)
split_one (types.pair x y) a b h = (x, y, refl, h.0, h.1)
split_one _ a b h = absurd h

splits_as : (c x y : NominalType) → c ≡ types.pair x y → Splits (one c) (one x) (one y)
splits_as c x y e = subst (λ d. Splits (one d) (one x) (one y)) (sym e) (refl, refl)

opens_two_holes : (n : ℕ) (idents : List IdentKind) (t : TypeShape) (s : EquationSystem) → IsMade n idents s → IsShapeOf n t s
    → Opens n idents (SidesOf (whole t)) s (whole (hole s.next)) (whole (hole (s.next + 1))) (new_sides_at None t s).system
opens_two_holes n idents t s m h =
    let s1 = with_hole s in
    let s2 = with_hole s1 in
    let m1 = made_hole n idents s m in
    let m2 = made_hole n idents s1 m1 in
    let up = grows_on n s s1 s2 (grows_hole n s) (grows_hole n s1) in
    let k : IsShapeOf n (pair (hole s.next) (hole (s.next + 1))) s2 = record { bounded = omega arith; proper = λ f r. (tt, tt) } in
    let g = gathers_equate n idents t (pair (hole s.next) (hole (s.next + 1))) s2 m2 (shape_grows n t s s2 up h) k in
    record {
      made = g.made;
      grows = grows_on n s s2 (new_sides_at None t s).system up g.grows;
      left = hole_shape n s.next (new_sides_at None t s).system (omega arith);
      right = hole_shape n (s.next + 1) (new_sides_at None t s).system (omega arith);
      sound = λ φ f r. splits_as (closed φ t) (φ s.next) (φ (s.next + 1)) (g.sound φ f r);
      complete = λ φ f r a b z.
          let q = split_one (closed φ t) a b z in
          let p = hole_filled n idents s φ q.0 m r in
          let o = hole_filled n idents s1 p.0 q.1 m1 p.2 in
          let first : o.0 s.next ≡ q.0 = sym (o.1 s.next (omega arith)) ∙ p.3 in
          let agree : Agree s.next φ o.0 = agree_on s.next s1.next φ p.0 o.0 (omega arith) p.1 o.1 in
          let e : closed o.0 t ≡ types.pair (o.0 s.next) (o.0 (s.next + 1)) = sym (closed_same s.next φ o.0 agree t h.bounded) ∙ q.2 ∙ (let c = o.3 in cc) in
          let fits = fits_same n idents φ o.0 (below_idents (length idents) s.next φ o.0 m.past agree) f in
          let c = g.complete o.0 fits o.2 e in (
            c.0,
            agree_on s.next s2.next φ o.0 c.0 (omega arith) agree c.1,
            c.2,
            q.3 ∙ ap one (sym first ∙ c.1 s.next (omega arith)),
            q.4 ∙ ap one (sym o.3 ∙ c.1 (s.next + 1) (omega arith)),
          );
    }

agree_self : (k : ℕ) (φ : Assign) → Agree k φ φ
agree_self k φ x l = refl

same_sides : (a b c d : NominalType) → ◌≡◌ {A = NominalType} (types.pair a b) (types.pair c d) → (c ≡ a) × (d ≡ b)
same_sides a b c d e = (let f : c ≡ a = cc in f, let g : d ≡ b = cc in g)

-- a hole of which the table says that it is a pair
opens_known_pair : (n : ℕ) (idents : List IdentKind) (x y z : ℕ) (s : EquationSystem) → shape_at s.table x ≡ pair (hole y) (hole z) → IsMade n idents s
    → Opens n idents (SidesOf (whole (hole x))) s (whole (hole y)) (whole (hole z)) s
opens_known_pair n idents x y z s e m =
    let within : bound_of (pair (hole y) (hole z)) ≤ length s.table = subst (IsFormed (length s.table) x) e (m.formed x) in
    let held = m.held in
    let known : (φ : Assign) → Meets n φ s → φ x ≡ types.pair (φ y) (φ z) =
    λ φ r. opened_injective (φ x) (types.pair (φ y) (φ z)) (r.0.0 x ∙ ap (filled (filling φ)) e) in
    record {
      made = m;
      grows = grows_refl n s;
      left = hole_shape n y s (omega (arith, within, held));
      right = hole_shape n z s (omega (arith, within, held));
      sound = λ φ f r. splits_as (φ x) (φ y) (φ z) (known φ r);
      complete = λ φ f r a b h.
          let q = split_one (φ x) a b h in
          let same = same_sides (φ y) (φ z) q.0 q.1 (sym (known φ r) ∙ q.2) in
          (φ, agree_self s.next φ, r, q.3 ∙ ap one same.0, q.4 ∙ ap one same.1);
    }

-- a hole of which the table says what data type it is
near_closed : (n : ℕ) (s : EquationSystem) (d x : ℕ) (φ : Assign) → shape_at s.table x ≡ base d → Meets n φ s → φ x ≡ types.base d
near_closed n s d x φ e h = opened_injective (φ x) (types.base d) (h.0.0 x ∙ ap (filled (filling φ)) e)

opens_near : (n : ℕ) (idents : List IdentKind) (t : TypeShape) (d x : ℕ) (s : EquationSystem) → shape_at s.table x ≡ base d → IsMade n idents s → IsShapeOf n t s
    → OpensFor n idents (λ φ a b. IsOf (Some d) a) (SidesOf (whole t)) s (whole (hole x)) (whole (hole s.next)) (new_sides_at (Some x) t s).system
opens_near n idents t d x s is m h =
    let l : x < s.next = let b = base_below s.table d x is in let k = m.held in omega (arith, b, k) in
    let s1 = with_hole s in
    let m1 = made_hole n idents s m in
    let up = grows_hole n s in
    let k : IsShapeOf n (pair (hole x) (hole s.next)) s1 = record { bounded = omega (arith, l); proper = λ f r. (tt, tt) } in
    let g = gathers_equate n idents t (pair (hole x) (hole s.next)) s1 m1 (shape_grows n t s s1 up h) k in
    let more1 = g.grows.next in
    record {
      made = g.made;
      grows = grows_on n s s1 (new_sides_at (Some x) t s).system up g.grows;
      left = hole_shape n x (new_sides_at (Some x) t s).system (omega (arith, l, more1));
      right = hole_shape n s.next (new_sides_at (Some x) t s).system (omega (arith, more1));
      sound = λ φ f r. splits_as (closed φ t) (φ x) (φ s.next) (g.sound φ f r);
      complete = λ φ f r a b i z.
          let q = split_one (closed φ t) a b z in
          let o = hole_filled n idents s φ q.1 m r in
          let near : φ x ≡ types.base d = near_closed n s d x φ is r in
          let both : ◌≡◌ {A = Want} (one q.0) (one (types.base d)) = sym q.3 ∙ i in
          let first : q.0 ≡ o.0 x = (let c : q.0 ≡ types.base d = cc in c) ∙ sym near ∙ o.1 x l in
          let e : closed o.0 t ≡ types.pair (o.0 x) (o.0 s.next) = sym (closed_same s.next φ o.0 o.1 t h.bounded) ∙ q.2 ∙ (let c = o.3 in cc) in
          let fits = fits_same n idents φ o.0 (below_idents (length idents) s.next φ o.0 m.past o.1) f in
          let c = g.complete o.0 fits o.2 e in (
            c.0,
            agree_on s.next s1.next φ o.0 c.0 (omega arith) o.1 c.1,
            c.2,
            q.3 ∙ ap one (first ∙ c.1 x (omega (arith, l))),
            q.4 ∙ ap one (sym o.3 ∙ c.1 s.next (omega arith)),
          );
    }

-- the left side has the data type, if it is known to have one
abbrev pub LeftOf : Option ℕ → Assign → Want → Want → Type 0
LeftOf d φ a b = IsOf d a

opens_at : (n : ℕ) (idents : List IdentKind) (t : TypeShape) (d o : Option ℕ) (s : EquationSystem) → near_for s.table d ≡ o → IsMade n idents s → IsShapeOf n t s
    → OpensFor n idents (LeftOf d) (SidesOf (whole t)) s (new_sides_at o t s).left (new_sides_at o t s).right (new_sides_at o t s).system
opens_at n idents t d None s e m h =
    opens_for n idents (LeftOf d) (SidesOf (whole t)) s (new_sides_at None t s).system (whole (hole s.next)) (whole (hole (s.next + 1))) (opens_two_holes n idents t s m h)
opens_at n idents t None (Some x) s e m h = let c : ◌≡◌ {A = Option ℕ} None (Some x) = e in absurd (cc)
opens_at n idents t (Some d) (Some x) s e m h = opens_near n idents t d x s (near_is s.table d x e) m h

opens_new_sides : (n : ℕ) (idents : List IdentKind) (d : Option ℕ) (t : TypeShape) (s : EquationSystem) → IsMade n idents s → IsShapeOf n t s
    → OpensFor n idents (LeftOf d) (SidesOf (whole t)) s (new_sides d t s).left (new_sides d t s).right (new_sides d t s).system
opens_new_sides n idents d t s m h = opens_at n idents t d (near_for s.table d) s refl m h

want_all : (φ : Assign) (as' : List NominalType) → want_by φ (wanting_all as') ≡ arguments as'
want_all φ [] = refl
want_all φ (a ∷ []) = refl
want_all φ (a ∷ b ∷ rest) = refl

suits_all : (n : ℕ) (as' : List NominalType) (s : EquationSystem) → Suits n (wanting_all as') s
suits_all n [] s = tt
suits_all n (a ∷ []) s = tt
suits_all n (a ∷ b ∷ rest) s = tt

-- nothing new
opens_same : (n : ℕ) (idents : List IdentKind) (R : Assign → Want → Want → Type 0) (s : EquationSystem) (w v : Wanting) → IsMade n idents s → Suits n w s → Suits n v s
    → ((φ : Assign) → R φ (want_by φ w) (want_by φ v)) → ((φ : Assign) (a b : Want) → R φ a b → (a ≡ want_by φ w) × (b ≡ want_by φ v)) → Opens n idents R s w v s
opens_same n idents R s w v m p q to from = record {
  made = m;
  grows = grows_refl n s;
  left = p;
  right = q;
  sound = λ φ f r. to φ;
  complete = λ φ f r a b h. let e = from φ a b h in (φ, agree_self s.next φ, r, e.0, e.1);
}

left_side : (n : ℕ) (t u : TypeShape) (s : EquationSystem) → IsShapeOf n (pair t u) s → IsShapeOf n t s
left_side n t u s h = record { bounded = let a = h.bounded in omega arith; proper = λ f g. (h.proper f g).0 }

right_side : (n : ℕ) (t u : TypeShape) (s : EquationSystem) → IsShapeOf n (pair t u) s → IsShapeOf n u s
right_side n t u s h = record { bounded = let a = h.bounded in omega arith; proper = λ f g. (h.proper f g).1 }

list_shape : (n : ℕ) (x : ℕ) (s : EquationSystem) → x < s.next → IsShapeOf n (list (hole x)) s
list_shape n x s l = record { bounded = omega arith; proper = λ f g. tt }

opens_refused : (n : ℕ) (idents : List IdentKind) (R : Assign → Want → Want → Type 0) (s : EquationSystem) → IsMade n idents s → ((φ : Assign) (a b : Want) → R φ a b → ⊥)
    → Opens n idents R s nothing nothing (system_refused s)
opens_refused n idents R s m h =
    let g = gathers_refused n idents (λ φ. ⊥) s m (λ φ f p. p) in
    record {
      made = g.made;
      grows = g.grows;
      left = tt;
      right = tt;
      sound = λ φ f r. absurd (g.sound φ f r);
      complete = λ φ f r a b k. absurd (h φ a b k);
    }

opens_typed_sides : (n : ℕ) (idents : List IdentKind) (d : Option ℕ) (c : NominalType) (s : EquationSystem) → IsMade n idents s
    → OpensFor n idents (LeftOf d) (SidesOf (typed c)) s (new_sides d (shape_of_type c) s).left (new_sides d (shape_of_type c) s).right (new_sides d (shape_of_type c) s).system
opens_typed_sides n idents d c s m =
    let p = new_sides d (shape_of_type c) s in
    opens_for_map n idents (LeftOf d) (SidesOf (whole (shape_of_type c))) (SidesOf (typed c)) s p.system p.left p.right
    (λ φ a b h. subst (λ e. Splits (one e) a b) (closed_opened φ c) h) (λ φ a b h. subst (λ e. Splits (one e) a b) (sym (closed_opened φ c)) h)
    (opens_new_sides n idents d (shape_of_type c) s m (opened_shape n c s))

-- nothing new, whatever the left side has
opens_as_it_is : (n : ℕ) (idents : List IdentKind) (d : Option ℕ) (R : Assign → Want → Want → Type 0) (s : EquationSystem) (w v : Wanting) → IsMade n idents s → Suits n w s → Suits n v s
    → ((φ : Assign) → R φ (want_by φ w) (want_by φ v)) → ((φ : Assign) (a b : Want) → R φ a b → (a ≡ want_by φ w) × (b ≡ want_by φ v)) → OpensFor n idents (LeftOf d) R s w v s
opens_as_it_is n idents d R s w v m p q to from = opens_for n idents (LeftOf d) R s s w v (opens_same n idents R s w v m p q to from)

opens_hole : (n : ℕ) (idents : List IdentKind) (d : Option ℕ) (x : ℕ) (o : Option (ℕ × ℕ)) (s : EquationSystem) → pair_in (shape_at s.table x) ≡ o → IsMade n idents s → IsShapeOf n (hole x) s
    → OpensFor n idents (LeftOf d) (SidesOf (whole (hole x))) s (sides_of_hole d x o s).left (sides_of_hole d x o s).right (sides_of_hole d x o s).system
opens_hole n idents d x None s e m h = opens_new_sides n idents d (hole x) s m h
opens_hole n idents d x (Some p) s e m h =
    opens_for n idents (LeftOf d) (SidesOf (whole (hole x))) s s (whole (hole p.0)) (whole (hole p.1))
    (opens_known_pair n idents x p.0 p.1 s (pair_is (shape_at s.table x) p e) m)

pub opens_sides : (n : ℕ) (idents : List IdentKind) (d : Option ℕ) (w : Wanting) (s : EquationSystem) → IsMade n idents s → Suits n w s
    → OpensFor n idents (LeftOf d) (SidesOf w) s (sides d w s).left (sides d w s).right (sides d w s).system
opens_sides n idents d (whole (pair t u)) s m h =
    opens_as_it_is n idents d (SidesOf (whole (pair t u))) s (whole t) (whole u) m (left_side n t u s h) (right_side n t u s h) (λ φ. (refl, refl)) (λ φ a b r. r)
opens_sides n idents d (whole (hole x)) s m h = opens_hole n idents d x (pair_in (shape_at s.table x)) s refl m h
opens_sides n idents d (whole unit) s m h = opens_new_sides n idents d unit s m h
opens_sides n idents d (whole (names k)) s m h = opens_new_sides n idents d (names k) s m h
opens_sides n idents d (whole (base c)) s m h = opens_new_sides n idents d (base c) s m h
opens_sides n idents d (whole (list t)) s m h = opens_new_sides n idents d (list t) s m h
opens_sides n idents d (whole (abs t u)) s m h = opens_new_sides n idents d (abs t u) s m h
opens_sides n idents d (typed (types.pair b c)) s m h = opens_as_it_is n idents d (SidesOf (typed (types.pair b c))) s (typed b) (typed c) m tt tt (λ φ. (refl, refl)) (λ φ a b r. r)
opens_sides n idents d (typed types.unit) s m h = opens_typed_sides n idents d types.unit s m
opens_sides n idents d (typed (types.names k)) s m h = opens_typed_sides n idents d (types.names k) s m
opens_sides n idents d (typed (types.base c)) s m h = opens_typed_sides n idents d (types.base c) s m
opens_sides n idents d (typed (types.list c)) s m h = opens_typed_sides n idents d (types.list c) s m
opens_sides n idents d (typed (types.abs k c)) s m h = opens_typed_sides n idents d (types.abs k c) s m
opens_sides n idents d nothing s m h =
    opens_for n idents (LeftOf d) (SidesOf nothing) s (system_refused s) nothing nothing (opens_refused n idents (SidesOf nothing) s m (λ φ a b r. r))
opens_sides n idents d (more c rest) s m h =
    opens_as_it_is n idents d (SidesOf (more c rest)) s (typed c) (wanting_all rest) m tt (suits_all n rest s)
    (λ φ. (refl, want_all φ rest)) (λ φ a b r. (r.0, r.1 ∙ sym (want_all φ rest)))
opens_sides n idents d (cell x) s m h =
    opens_as_it_is n idents d (SidesOf (cell x)) s (whole (hole x)) (whole (list (hole x))) m (hole_shape n x s h) (list_shape n x s h) (λ φ. (refl, refl)) (λ φ a b r. r)
opens_sides n idents d (typed_cell c) s m h = opens_as_it_is n idents d (SidesOf (typed_cell c)) s (typed c) (typed (types.list c)) m tt tt (λ φ. (refl, refl)) (λ φ a b r. r)

-- Lists.
abbrev pub CellOf : Wanting → Assign → Want → Want → Type 0
CellOf w φ a b = (c : NominalType) × (want_by φ w ≡ one (types.list c)) × (a ≡ typing.more c (one (types.list c))) × (b ≡ typing.nothing)

abbrev pub NilOf : Wanting → Assign → Want → Want → Type 0
NilOf w φ a b = (c : NominalType) × (want_by φ w ≡ one (types.list c)) × (a ≡ typing.nothing) × (b ≡ typing.nothing)

cell_of : NominalType → Want
cell_of c = typing.more c (one (types.list c))

opens_new_element : (n : ℕ) (idents : List IdentKind) (w : Wanting) (s : EquationSystem) → IsMade n idents s → Suits n w s
    → Opens n idents (CellOf w) s (new_element w s).want nothing (new_element w s).system
opens_new_element n idents w s m h =
    let s1 = with_hole s in
    let m1 = made_hole n idents s m in
    let g = gathers_meet n idents w (list (hole s.next)) s1 m1 (suits_grows n w s s1 (grows_hole n s) h) (list_shape n s.next s1 (omega arith)) in
    let more1 = g.grows.next in
    record {
      made = g.made;
      grows = grows_on n s s1 (new_element w s).system (grows_hole n s) g.grows;
      left = omega arith;
      right = tt;
      sound = λ φ f r. (φ s.next, g.sound φ f r, refl, refl);
      complete = λ φ f r a b z.
          let p = hole_filled n idents s φ z.0 m r in
          let fits = fits_same n idents φ p.0 (below_idents (length idents) s.next φ p.0 m.past p.1) f in
          let e : want_by p.0 w ≡ one (types.list (p.0 s.next)) = sym (want_same n w s φ p.0 p.1 h) ∙ z.1 ∙ ap (λ c. one (types.list c)) (sym p.3) in
          let c = g.complete p.0 fits p.2 e in (
            c.0,
            agree_on s.next s1.next φ p.0 c.0 (omega arith) p.1 c.1,
            c.2,
            z.2 ∙ ap (λ d. typing.more d (one (types.list d))) (sym p.3 ∙ c.1 s.next (omega arith)),
            z.3,
          );
    }

-- a list of the type of a hole is wanted, or of a type
data CellBy (ts : List TypeShape) (w v : Wanting) : Type 0 where
  of_hole : (x : ℕ) → w ≡ whole (list (hole x)) → v ≡ cell x → CellBy ts w v
  of_type : (c : NominalType) → w ≡ typed (types.list c) → v ≡ typed_cell c → CellBy ts w v
  of_known : (x y : ℕ) → w ≡ whole (hole x) → shape_at ts x ≡ list (hole y) → v ≡ cell y → CellBy ts w v

known_by : (ts : List TypeShape) (x : ℕ) (o : Option ℕ) (v : Wanting) → list_in (shape_at ts x) ≡ o → cell_if o ≡ Some v → CellBy ts (whole (hole x)) v
known_by ts x None v i e = let c : ◌≡◌ {A = Option Wanting} None (Some v) = e in absurd (cc)
known_by ts x (Some y) v i e = of_known x y refl (list_is (shape_at ts x) y i) (let d : v ≡ cell y = cc in d)

cell_by : (ts : List TypeShape) (w v : Wanting) → cell_wanted ts w ≡ Some v → CellBy ts w v
cell_by ts (whole (list (hole x))) v e = of_hole x refl (let d : v ≡ cell x = cc in d)
cell_by ts (whole (hole x)) v e = known_by ts x (list_in (shape_at ts x)) v refl e
cell_by ts (typed (types.list c)) v e = of_type c refl (let d : v ≡ typed_cell c = cc in d)
cell_by ts _ v e = cc

opens_known_cell : (n : ℕ) (idents : List IdentKind) (x y : ℕ) (s : EquationSystem) → shape_at s.table x ≡ list (hole y) → IsMade n idents s
    → Opens n idents (CellOf (whole (hole x))) s (cell y) nothing s
opens_known_cell n idents x y s e m =
    let within : bound_of (list (hole y)) ≤ length s.table = subst (IsFormed (length s.table) x) e (m.formed x) in
    let held = m.held in
    let known : (φ : Assign) → Meets n φ s → φ x ≡ types.list (φ y) = λ φ r. opened_injective (φ x) (types.list (φ y)) (r.0.0 x ∙ ap (filled (filling φ)) e) in
    record {
      made = m;
      grows = grows_refl n s;
      left = omega (arith, within, held);
      right = tt;
      sound = λ φ f r. (φ y, ap one (known φ r), refl, refl);
      complete = λ φ f r a b z.
          let d : ◌≡◌ {A = Want} (one (types.list (φ y))) (one (types.list z.0)) = sym (ap one (known φ r)) ∙ z.1 in
          let c : φ y ≡ z.0 = cc in
          (φ, agree_self s.next φ, r, z.2 ∙ ap (λ b. typing.more b (one (types.list b))) (sym c), z.3);
    }

opens_hole_cell : (n : ℕ) (idents : List IdentKind) (x : ℕ) (s : EquationSystem) → IsMade n idents s → Suits n (whole (list (hole x))) s
    → Opens n idents (CellOf (whole (list (hole x)))) s (cell x) nothing s
opens_hole_cell n idents x s m h =
    let l : x < s.next = let k : IsShapeOf n (list (hole x)) s = h in let b = k.bounded in omega arith in
    opens_same n idents (CellOf (whole (list (hole x)))) s (cell x) nothing m l tt
    (λ φ. (φ x, refl, refl, refl))
    (λ φ a b r. let d : ◌≡◌ {A = Want} (one (types.list (φ x))) (one (types.list r.0)) = r.1 in
    let c : φ x ≡ r.0 = cc in
    (r.2 ∙ ap (λ z. typing.more z (one (types.list z))) (sym c), r.3))

opens_typed_cell : (n : ℕ) (idents : List IdentKind) (c : NominalType) (s : EquationSystem) → IsMade n idents s
    → Opens n idents (CellOf (typed (types.list c))) s (typed_cell c) nothing s
opens_typed_cell n idents c s m =
    opens_same n idents (CellOf (typed (types.list c))) s (typed_cell c) nothing m tt tt
    (λ φ. (c, refl, refl, refl))
    (λ φ a b r. let d : ◌≡◌ {A = Want} (one (types.list c)) (one (types.list r.0)) = r.1 in
    let e : c ≡ r.0 = cc in
    (r.2 ∙ ap (λ z. typing.more z (one (types.list z))) (sym e), r.3))

opens_by : (n : ℕ) (idents : List IdentKind) (w v : Wanting) (s : EquationSystem) → CellBy s.table w v → IsMade n idents s → Suits n w s → Opens n idents (CellOf w) s v nothing s
opens_by n idents w v s (of_hole x i j) m h =
    let o = opens_hole_cell n idents x s m (subst (λ (z : Wanting). Suits n z s) i h) in
    subst (λ (z : Wanting). Opens n idents (CellOf w) s z nothing s) (sym j) (subst (λ (z : Wanting). Opens n idents (CellOf z) s (cell x) nothing s) (sym i) o)
opens_by n idents w v s (of_type c i j) m h =
    let o = opens_typed_cell n idents c s m in
    subst (λ (z : Wanting). Opens n idents (CellOf w) s z nothing s) (sym j) (subst (λ (z : Wanting). Opens n idents (CellOf z) s (typed_cell c) nothing s) (sym i) o)
opens_by n idents w v s (of_known x y i e j) m h =
    let o = opens_known_cell n idents x y s e m in
    subst (λ (z : Wanting). Opens n idents (CellOf w) s z nothing s) (sym j) (subst (λ (z : Wanting). Opens n idents (CellOf z) s (cell y) nothing s) (sym i) o)

opens_element : (n : ℕ) (idents : List IdentKind) (o : Option Wanting) (w : Wanting) (s : EquationSystem) → cell_wanted s.table w ≡ o → IsMade n idents s → Suits n w s
    → Opens n idents (CellOf w) s (inside_element o w s).want nothing (inside_element o w s).system
opens_element n idents None w s e m h = opens_new_element n idents w s m h
opens_element n idents (Some v) w s e m h = opens_by n idents w v s (cell_by s.table w v e) m h

pub opens_cell : (n : ℕ) (idents : List IdentKind) (w : Wanting) (s : EquationSystem) → IsMade n idents s → Suits n w s
    → Opens n idents (CellOf w) s (inside_cell w s).want nothing (inside_cell w s).system
opens_cell n idents w s m h = opens_element n idents (cell_wanted s.table w) w s refl m h

pub opens_nil : (n : ℕ) (idents : List IdentKind) (w : Wanting) (s : EquationSystem) → IsMade n idents s → Suits n w s
    → Opens n idents (NilOf w) s nothing nothing (inside_cell w s).system
opens_nil n idents w s m h =
    let o = opens_cell n idents w s m h in
    record {
      made = o.made;
      grows = o.grows;
      left = tt;
      right = tt;
      sound = λ φ f r. let c = o.sound φ f r in (c.0, c.1, refl, refl);
      complete = λ φ f r a b z.
          let c = o.complete φ f r (typing.more z.0 (one (types.list z.0))) typing.nothing (z.0, z.1, refl, refl) in
          (c.0, c.1, c.2, z.2, z.3);
    }

-- Declared constructors.
abbrev pub DeclaredOf : Option NominalConstructor → Wanting → Assign → Want → Want → Type 0
DeclaredOf o w φ a b = (c : NominalType) × (want_by φ w ≡ one c) × Declares o c a × (b ≡ typing.nothing)

pub opens_declared : (n : ℕ) (idents : List IdentKind) (o : Option NominalConstructor) (w : Wanting) (s : EquationSystem) → IsMade n idents s → Suits n w s
    → Opens n idents (DeclaredOf o w) s (inside_declared o w s).want nothing (inside_declared o w s).system
opens_declared n idents None w s m h = opens_refused n idents (DeclaredOf None w) s m (λ φ a b r. r.2)
opens_declared n idents (Some c) w s m h =
    let g = gathers_meet n idents w (base c.result) s m h (record { bounded = omega arith; proper = λ f r. tt }) in
    record {
      made = g.made;
      grows = g.grows;
      left = suits_all n c.args (inside_declared (Some c) w s).system;
      right = tt;
      sound = λ φ f r. (types.base c.result, g.sound φ f r, (refl, want_all φ c.args), refl);
      complete = λ φ f r a b z.
          let k = g.complete φ f r (z.1 ∙ ap one z.2.0) in
          (k.0, k.1, k.2, z.2.1 ∙ sym (want_all k.0 c.args), z.3);
    }
