-- The steps of a walk.
use Rattle.std.proofs.Common.{◌≡◌, ◌<◌, ◌⊎◌, ◌∙◌, inl, inr, ℕ, Bool, true, false, ◌||◌, List, [], ◌∷◌, length, refl, sym, ap, subst, arith}
use Rattle.std.specs.Prelude.{◌==◌, if◌then◌else◌}
use Rattle.std.proofs.lemmas.Bool.{and_parts, or_cases}
use Rattle.std.proofs.lemmas.Bool.Decides.{eqb_tells}
use Rattle.ap_defs.specs.Types.{NominalType, TypeShape, hole, unit, names, base, list}
use Rattle.ap_defs.specs.Types as types
use Rattle.ap_defs.specs.Typing as typing
use Rattle.ap_defs.specs.Typing.{Want, one, arguments}
use Rattle.ap_types.specs.Equations.{ShapeEquation, ◌≐◌, Filling, FillingSolves, filled}
use Rattle.ap_types.specs.Growing.{is_same}
use Rattle.ap_types.proofs.GrowLemmas.{grown_at, grown_length, grown_fits, grown_formed, same_shapes}
use Rattle.ap_kinds.specs.declared.kinds.IdentKind.{IdentKind}
use Rattle.ap_kinds.specs.Systems.{EquationSystem, equate, with_name_hole, with_hole, shape_of_type}
use Rattle.ap_kinds.specs.Gathering.{Wanting, whole, typed, nothing, more, cell, typed_cell, ends_between, equate_unless, equate_others, meet, meet_unit, meet_swapped}
use Rattle.ap_kinds.proofs.Assignments.{Assign, filling, closed, closes, opened_injective, IsProper, Agree, closed_opened, proper_opened, bound_opened, names_snoc, names_bound_snoc}
use Rattle.ap_kinds.proofs.Gathers.{Meets, IsMade, Grows, IsShapeOf, Suits, want_by, meets_same, Gathers, gathers_map, gathers_none, gathers_equate, gathers_refused}

-- New holes.
abbrev put : Assign → ℕ → NominalType → Assign
put φ x a y = if y == x then a else φ y

put_at : (φ : Assign) (x : ℕ) (a : NominalType) → put φ x a x ≡ a
put_at φ x a = elim (eqb_tells x x) [ inl w ↦ rw w.0 refl | inr w ↦ absurd (w.1 refl) ]

put_agrees : (φ : Assign) (x : ℕ) (a : NominalType) → Agree x φ (put φ x a)
put_agrees φ x a y l = elim (eqb_tells y x) [ inl w ↦ let e = w.1 in absurd (omega arith) | inr w ↦ rw w.0 refl ]

pub made_hole : (n : ℕ) (idents : List IdentKind) (s : EquationSystem) → IsMade n idents s → IsMade n idents (with_hole s)
made_hole n idents s m = record {
  formed = grown_formed s.table m.formed;
  held = let l = m.held in let e = grown_length s.table (hole (length s.table)) in omega arith;
  bounded = let a = m.bounded in omega arith;
  named = let a = m.named in omega arith;
  proper = λ f g. let p = m.proper f g in ((λ x. subst (IsProper f) (sym (grown_at s.table x)) (p.0 x)), p.1);
  past = let a = m.past in omega arith;
}

pub grows_hole : (n : ℕ) (s : EquationSystem) → Grows n s (with_hole s)
grows_hole n s = record {
  next = omega arith;
  names = λ f h. h;
  back = λ φ h. (((grown_fits (filling φ) s.table).1 h.0.0, h.0.1), h.1);
}

pub made_name : (n : ℕ) (idents : List IdentKind) (s : EquationSystem) (x : ℕ) → x < s.next → IsMade n idents s → IsMade n idents (with_name_hole x s)
made_name n idents s x l m = record {
  formed = m.formed;
  held = m.held;
  bounded = m.bounded;
  named = names_bound_snoc s.next s.names x m.named l;
  proper = λ f g. m.proper f (names_snoc n f s.names x g).0;
  past = m.past;
}

pub grows_name : (n : ℕ) (s : EquationSystem) (x : ℕ) → Grows n s (with_name_hole x s)
grows_name n s x = record { next = omega arith; names = λ f g. (names_snoc n f s.names x g).0; back = λ φ h. (h.0, (names_snoc n (filling φ) s.names x h.1).0) }

pub hole_filled : (n : ℕ) (idents : List IdentKind) (s : EquationSystem) (φ : Assign) (a : NominalType) → IsMade n idents s → Meets n φ s
    → (ψ : Assign) × Agree s.next φ ψ × Meets n ψ (with_hole s) × (ψ s.next ≡ a)
hole_filled n idents s φ a m h =
    let ψ = put φ s.next a in
    let r = meets_same n idents s φ ψ m (put_agrees φ s.next a) h in
    (ψ, put_agrees φ s.next a, (((grown_fits (filling ψ) s.table).0 r.0.0, r.0.1), r.1), put_at φ s.next a)

pub hole_shape : (n : ℕ) (x : ℕ) (s : EquationSystem) → x < s.next → IsShapeOf n (hole x) s
hole_shape n x s l = record { bounded = omega arith; proper = λ f g. tt }

pub opened_shape : (n : ℕ) (a : NominalType) (s : EquationSystem) → IsShapeOf n (shape_of_type a) s
opened_shape n a s = record { bounded = bound_opened a s.next; proper = λ f g. proper_opened f a }

-- what the last equation says of two shapes
last_solved : (f : Filling) (t u : TypeShape) (es : List ShapeEquation) → ends_between t u es ≡ true → FillingSolves f es → filled f t ≡ filled f u
last_solved f t u [] e h = absurd (cc)
last_solved f t u ((v ≐ w) ∷ []) e h =
    let both = and_parts (is_same v t) (is_same w u) e in
    ap (filled f) (sym (same_shapes v t both.0)) ∙ h.0 ∙ ap (filled f) (same_shapes w u both.1)
last_solved f t u ((v ≐ w) ∷ (x ≐ y) ∷ es) e h = last_solved f t u ((x ≐ y) ∷ es) e h.1

same_already : (n : ℕ) (t u : TypeShape) (s : EquationSystem) (φ : Assign) → (is_same t u || ends_between t u s.equations) ≡ true → IsShapeOf n t s → IsShapeOf n u s → Meets n φ s
    → closed φ t ≡ closed φ u
same_already n t u s φ e h k r = elim (or_cases (is_same t u) (ends_between t u s.equations) e) [
  | inl d ↦ ap (closed φ) (same_shapes t u d)
  | inr d ↦
      opened_injective (closed φ t) (closed φ u)
      (sym (closes φ t (h.proper (filling φ) r.1)) ∙ last_solved (filling φ) t u s.equations d r.0.1 ∙ closes φ u (k.proper (filling φ) r.1))
]

gathers_unless : (n : ℕ) (idents : List IdentKind) (t u : TypeShape) (s : EquationSystem) (b : Bool) → (is_same t u || ends_between t u s.equations) ≡ b → IsMade n idents s
    → IsShapeOf n t s → IsShapeOf n u s → Gathers n idents (λ φ. one (closed φ t) ≡ one (closed φ u)) s (equate_unless b t u s)
gathers_unless n idents t u s true e m h k =
    gathers_none n idents (λ φ. one (closed φ t) ≡ one (closed φ u)) s m (λ φ f r. ap one (same_already n t u s φ e h k r))
gathers_unless n idents t u s false e m h k =
    gathers_map n idents (λ φ. closed φ t ≡ closed φ u) (λ φ. one (closed φ t) ≡ one (closed φ u)) s (equate t u s)
    (λ φ f r e. ap one e) (λ φ f r e. let d : ◌≡◌ {A = Want} (one (closed φ t)) (one (closed φ u)) = e in cc) (gathers_equate n idents t u s m h k)

-- the shapes become the same
gathers_others : (n : ℕ) (idents : List IdentKind) (t u : TypeShape) (s : EquationSystem) → IsMade n idents s → IsShapeOf n t s → IsShapeOf n u s
    → Gathers n idents (λ φ. one (closed φ t) ≡ one (closed φ u)) s (equate_others t u s)
gathers_others n idents t u s m h k = gathers_unless n idents t u s (is_same t u || ends_between t u s.equations) refl m h k

-- A term of a shape stands where something is wanted.
pub gathers_meet : (n : ℕ) (idents : List IdentKind) (w : Wanting) (u : TypeShape) (s : EquationSystem) → IsMade n idents s → Suits n w s → IsShapeOf n u s
    → Gathers n idents (λ φ. want_by φ w ≡ one (closed φ u)) s (meet w u s)
gathers_meet n idents (whole t) u s m h k = gathers_others n idents t u s m h k
gathers_meet n idents (typed a) u s m h k =
    gathers_map n idents (λ φ. one (closed φ (shape_of_type a)) ≡ one (closed φ u)) (λ φ. one a ≡ one (closed φ u)) s (equate_others (shape_of_type a) u s)
    (λ φ f r e. ap one (sym (closed_opened φ a)) ∙ e) (λ φ f r e. ap one (closed_opened φ a) ∙ e) (gathers_others n idents (shape_of_type a) u s m (opened_shape n a s) k)
gathers_meet n idents nothing u s m h k = gathers_refused n idents (λ φ. typing.nothing ≡ one (closed φ u)) s m (λ φ f e. let d : ◌≡◌ {A = Want} typing.nothing (one (closed φ u)) = e in cc)
gathers_meet n idents (more a rest) u s m h k =
    gathers_refused n idents (λ φ. typing.more a (arguments rest) ≡ one (closed φ u)) s m (λ φ f e. let d : ◌≡◌ {A = Want} (typing.more a (arguments rest)) (one (closed φ u)) = e in cc)
gathers_meet n idents (cell x) u s m h k =
    gathers_refused n idents (λ φ. typing.more (φ x) (one (types.list (φ x))) ≡ one (closed φ u)) s m
    (λ φ f e. let d : ◌≡◌ {A = Want} (typing.more (φ x) (one (types.list (φ x)))) (one (closed φ u)) = e in cc)
gathers_meet n idents (typed_cell a) u s m h k =
    gathers_refused n idents (λ φ. typing.more a (one (types.list a)) ≡ one (closed φ u)) s m
    (λ φ f e. let d : ◌≡◌ {A = Want} (typing.more a (one (types.list a))) (one (closed φ u)) = e in cc)

pub gathers_unit : (n : ℕ) (idents : List IdentKind) (w : Wanting) (s : EquationSystem) → IsMade n idents s → Suits n w s
    → Gathers n idents (λ φ. (want_by φ w ≡ typing.nothing) ⊎ (want_by φ w ≡ one types.unit)) s (meet_unit w s)
gathers_unit n idents nothing s m h = gathers_none n idents (λ φ. (typing.nothing ≡ typing.nothing) ⊎ (typing.nothing ≡ one types.unit)) s m (λ φ f r. inl refl)
gathers_unit n idents (whole t) s m h =
    gathers_map n idents (λ φ. one (closed φ t) ≡ one types.unit) (λ φ. (one (closed φ t) ≡ typing.nothing) ⊎ (one (closed φ t) ≡ one types.unit)) s (meet (whole t) unit s)
    (λ φ f r e. inr e) (λ φ f r e. elim e [ inl d ↦ (let c : ◌≡◌ {A = Want} (one (closed φ t)) typing.nothing = d in cc) | inr d ↦ d ])
    (gathers_meet n idents (whole t) unit s m h (record { bounded = omega arith; proper = λ f g. tt }))
gathers_unit n idents (typed a) s m h =
    gathers_map n idents (λ φ. one a ≡ one types.unit) (λ φ. (one a ≡ typing.nothing) ⊎ (one a ≡ one types.unit)) s (meet (typed a) unit s)
    (λ φ f r e. inr e) (λ φ f r e. elim e [ inl d ↦ (let c : ◌≡◌ {A = Want} (one a) typing.nothing = d in cc) | inr d ↦ d ])
    (gathers_meet n idents (typed a) unit s m h (record { bounded = omega arith; proper = λ f g. tt }))
gathers_unit n idents (more a rest) s m h =
    gathers_refused n idents (λ φ. (typing.more a (arguments rest) ≡ typing.nothing) ⊎ (typing.more a (arguments rest) ≡ one types.unit)) s m
    (λ φ f e. elim e [
      | inl d ↦ (let c : ◌≡◌ {A = Want} (typing.more a (arguments rest)) typing.nothing = d in cc)
      | inr d ↦ (let c : ◌≡◌ {A = Want} (typing.more a (arguments rest)) (one types.unit) = d in cc)
    ])
gathers_unit n idents (cell x) s m h =
    gathers_refused n idents (λ φ. (typing.more (φ x) (one (types.list (φ x))) ≡ typing.nothing) ⊎ (typing.more (φ x) (one (types.list (φ x))) ≡ one types.unit)) s m
    (λ φ f e. elim e [
      | inl d ↦ (let c : ◌≡◌ {A = Want} (typing.more (φ x) (one (types.list (φ x)))) typing.nothing = d in cc)
      | inr d ↦ (let c : ◌≡◌ {A = Want} (typing.more (φ x) (one (types.list (φ x)))) (one types.unit) = d in cc)
    ])
gathers_unit n idents (typed_cell a) s m h =
    gathers_refused n idents (λ φ. (typing.more a (one (types.list a)) ≡ typing.nothing) ⊎ (typing.more a (one (types.list a)) ≡ one types.unit)) s m
    (λ φ f e. elim e [
      | inl d ↦ (let c : ◌≡◌ {A = Want} (typing.more a (one (types.list a))) typing.nothing = d in cc)
      | inr d ↦ (let c : ◌≡◌ {A = Want} (typing.more a (one (types.list a))) (one types.unit) = d in cc)
    ])

pub gathers_swapped : (n : ℕ) (idents : List IdentKind) (w : Wanting) (s : EquationSystem) → IsMade n idents s
    → Gathers n idents (λ φ. (a : NominalType) × (want_by φ w ≡ one a)) s (meet_swapped w s)
gathers_swapped n idents (whole t) s m = gathers_none n idents (λ φ. (a : NominalType) × (one (closed φ t) ≡ one a)) s m (λ φ f r. (closed φ t, refl))
gathers_swapped n idents (typed b) s m = gathers_none n idents (λ φ. (a : NominalType) × (one b ≡ one a)) s m (λ φ f r. (b, refl))
gathers_swapped n idents nothing s m =
    gathers_refused n idents (λ φ. (a : NominalType) × (typing.nothing ≡ one a)) s m (λ φ f e. let d : ◌≡◌ {A = Want} typing.nothing (one e.0) = e.1 in cc)
gathers_swapped n idents (more b rest) s m =
    gathers_refused n idents (λ φ. (a : NominalType) × (typing.more b (arguments rest) ≡ one a)) s m (λ φ f e. let d : ◌≡◌ {A = Want} (typing.more b (arguments rest)) (one e.0) = e.1 in cc)
gathers_swapped n idents (cell x) s m =
    gathers_refused n idents (λ φ. (a : NominalType) × (typing.more (φ x) (one (types.list (φ x))) ≡ one a)) s m
    (λ φ f e. let d : ◌≡◌ {A = Want} (typing.more (φ x) (one (types.list (φ x)))) (one e.0) = e.1 in cc)
gathers_swapped n idents (typed_cell b) s m =
    gathers_refused n idents (λ φ. (a : NominalType) × (typing.more b (one (types.list b)) ≡ one a)) s m
    (λ φ f e. let d : ◌≡◌ {A = Want} (typing.more b (one (types.list b))) (one e.0) = e.1 in cc)
