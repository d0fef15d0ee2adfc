-- What a part of a walk does: the new system has the solutions of the old one by which what was walked over is typed.
use Rattle.std.proofs.Common.{◌≡◌, ◌<◌, ◌≤◌, ◌∙◌, ℕ, List, length, refl, sym, ap, subst, arith}
use Rattle.ap_defs.specs.Types.{NominalType, NominalConstructor, TypeShape, unit, names, list}
use Rattle.ap_defs.specs.Types as types
use Rattle.ap_defs.specs.RawTerms.{RawTerm}
use Rattle.ap_defs.specs.Typing as typing
use Rattle.ap_defs.specs.Typing.{Want, one, arguments}
use Rattle.ap_types.specs.Equations.{Filling, GivesNames, bound_of, equations_bound, names_bound}
use Rattle.ap_types.specs.Triangular.{AreFormed}
use Rattle.ap_types.specs.Growing.{IsTableSolution, with_equation}
use Rattle.ap_program.specs.RawTyping.{IsTypedRaw}
use Rattle.ap_kinds.specs.declared.kinds.IdentKind.{IdentKind}
use Rattle.ap_kinds.specs.Sorts.{with_sorts}
use Rattle.ap_kinds.specs.Systems.{EquationSystem, equate, system_refused, shape_of_type}
use Rattle.ap_kinds.specs.Gathering.{Wanting, whole, typed, nothing, more, cell, typed_cell}
use Rattle.ap_kinds.proofs.Assignments.{Assign, filling, closed, IsProper, AreProper, Agree, closes, opened_injective, closed_same, solution_same, same_filling, agree_on}
use Rattle.ap_kinds.proofs.IdentLemmas.{kinds_by, Fits, kinds_same, fits_same}
use Rattle.ap_kinds.proofs.TakenEquations.{IsProperTable, fits_below, taken_formed, taken_length, taken_bound, taken_proper, taken_solves}

-- the types solve the system
abbrev pub Meets : ℕ → Assign → EquationSystem → Type 0
Meets n φ s = IsTableSolution s.table s.equations s.names n (filling φ)

abbrev pub IsProperSystem : Filling → EquationSystem → Type 0
IsProperSystem f s = IsProperTable f s.table × AreProper f s.equations

-- Its holes are below the next one, which is past the identifiers, and where names get name types its shapes are proper.
pub record IsMade (n : ℕ) (idents : List IdentKind) (s : EquationSystem) : Type 0 where
  pub formed : AreFormed s.table
  pub held : length s.table ≤ s.next
  pub bounded : equations_bound s.equations ≤ s.next
  pub named : names_bound s.names ≤ s.next
  pub proper : (f : Filling) → GivesNames n f s.names → IsProperSystem f s
  pub past : length idents ≤ s.next

-- The second system has the holes and names of the first.
pub record Grows (n : ℕ) (s s' : EquationSystem) : Type 0 where
  pub next : s.next ≤ s'.next
  pub names : (f : Filling) → GivesNames n f s'.names → GivesNames n f s.names
  pub back : (φ : Assign) → Meets n φ s' → Meets n φ s

-- what a want has of shapes is fit for the system
pub record IsShapeOf (n : ℕ) (t : TypeShape) (s : EquationSystem) : Type 0 where
  pub bounded : bound_of t ≤ s.next
  pub proper : (f : Filling) → GivesNames n f s.names → IsProper f t

abbrev pub Suits : ℕ → Wanting → EquationSystem → Type 0
Suits n (whole t) s = IsShapeOf n t s
Suits n (typed a) s = Unit {0}
Suits n nothing s = Unit {0}
Suits n (more a rest) s = Unit {0}
Suits n (cell x) s = x < s.next
Suits n (typed_cell a) s = Unit {0}

-- what is wanted, by the types of holes
abbrev pub want_by : Assign → Wanting → Want
want_by φ (whole t) = one (closed φ t)
want_by φ (typed a) = one a
want_by φ nothing = typing.nothing
want_by φ (more a rest) = typing.more a (arguments rest)
want_by φ (cell x) = typing.more (φ x) (one (types.list (φ x)))
want_by φ (typed_cell a) = typing.more a (one (types.list a))

pub grows_refl : (n : ℕ) (s : EquationSystem) → Grows n s s
grows_refl n s = record { next = omega arith; names = λ f h. h; back = λ φ h. h }

pub grows_on : (n : ℕ) (s s1 s2 : EquationSystem) → Grows n s s1 → Grows n s1 s2 → Grows n s s2
grows_on n s s1 s2 g h = record {
  next = let a = g.next in let b = h.next in omega arith;
  names = λ f k. g.names f (h.names f k);
  back = λ φ k. g.back φ (h.back φ k);
}

pub shape_grows : (n : ℕ) (t : TypeShape) (s s' : EquationSystem) → Grows n s s' → IsShapeOf n t s → IsShapeOf n t s'
shape_grows n t s s' g h = record { bounded = let a = g.next in let b = h.bounded in omega arith; proper = λ f k. h.proper f (g.names f k) }

pub suits_grows : (n : ℕ) (w : Wanting) (s s' : EquationSystem) → Grows n s s' → Suits n w s → Suits n w s'
suits_grows n (whole t) s s' g h = shape_grows n t s s' g h
suits_grows n (typed a) s s' g h = tt
suits_grows n nothing s s' g h = tt
suits_grows n (more a rest) s s' g h = tt
suits_grows n (cell x) s s' g h = let a = g.next in omega arith
suits_grows n (typed_cell a) s s' g h = tt

pub want_same : (n : ℕ) (w : Wanting) (s : EquationSystem) (φ ψ : Assign) → Agree s.next φ ψ → Suits n w s → want_by φ w ≡ want_by ψ w
want_same n (whole t) s φ ψ a h = ap one (closed_same s.next φ ψ a t h.bounded)
want_same n (typed b) s φ ψ a h = refl
want_same n nothing s φ ψ a h = refl
want_same n (more b rest) s φ ψ a h = refl
want_same n (cell x) s φ ψ a h = ap (λ b. typing.more b (one (types.list b))) (a x h)
want_same n (typed_cell b) s φ ψ a h = refl

pub meets_same : (n : ℕ) (idents : List IdentKind) (s : EquationSystem) (φ ψ : Assign) → IsMade n idents s → Agree s.next φ ψ → Meets n φ s → Meets n ψ s
meets_same n idents s φ ψ m a h =
    let same = same_filling s.next φ ψ a in
    let r = solution_same n s.next (filling φ) (filling ψ) same s.equations s.names m.bounded m.named (h.0.1, h.1) in
    ((fits_below s.next (filling φ) (filling ψ) same s.table m.formed m.held h.0.0, r.0), r.1)

pub below_idents : (k m : ℕ) (φ ψ : Assign) → k ≤ m → Agree m φ ψ → Agree k φ ψ
below_idents k m φ ψ l a x i = a x (omega arith)

-- The new system has, of the solutions of the old one that fit the identifiers, those with the property.
pub record Gathers (n : ℕ) (idents : List IdentKind) (P : Assign → Type 0) (s s' : EquationSystem) : Type 0 where
  pub made : IsMade n idents s'
  pub grows : Grows n s s'
  pub sound : (φ : Assign) → Fits n idents φ → Meets n φ s' → P φ
  pub complete : (φ : Assign) → Fits n idents φ → Meets n φ s → P φ → (ψ : Assign) × Agree s.next φ ψ × Meets n ψ s'

pub gathers_map : (n : ℕ) (idents : List IdentKind) (P Q : Assign → Type 0) (s s' : EquationSystem)
    → ((φ : Assign) → Fits n idents φ → Meets n φ s' → P φ → Q φ) → ((φ : Assign) → Fits n idents φ → Meets n φ s → Q φ → P φ) → Gathers n idents P s s' → Gathers n idents Q s s'
gathers_map n idents P Q s s' to from g = record {
  made = g.made;
  grows = g.grows;
  sound = λ φ f m. to φ f m (g.sound φ f m);
  complete = λ φ f m q. g.complete φ f m (from φ f m q);
}

agree_refl : (k : ℕ) (φ : Assign) → Agree k φ φ
agree_refl k φ x l = refl

-- nothing is walked over
pub gathers_none : (n : ℕ) (idents : List IdentKind) (P : Assign → Type 0) (s : EquationSystem) → IsMade n idents s → ((φ : Assign) → Fits n idents φ → Meets n φ s → P φ) → Gathers n idents P s s
gathers_none n idents P s m h = record { made = m; grows = grows_refl n s; sound = h; complete = λ φ f k p. (φ, agree_refl s.next φ, k) }

-- one equation
pub gathers_equate : (n : ℕ) (idents : List IdentKind) (t u : TypeShape) (s : EquationSystem) → IsMade n idents s → IsShapeOf n t s → IsShapeOf n u s
    → Gathers n idents (λ φ. closed φ t ≡ closed φ u) s (equate t u s)
gathers_equate n idents t u s m h k =
    let o = with_equation s.table t u in
    let solves = λ (f : Filling). taken_solves s.table t u m.formed f s.equations o refl in record {
      made = record {
        formed = taken_formed s.table t u m.formed o refl;
        held = let l = m.held in let e = taken_length s.table t u m.formed o refl in omega arith;
        bounded = taken_bound s.table t u m.formed s.next s.equations o m.bounded h.bounded k.bounded;
        named = m.named;
        proper = λ f g. let p = m.proper f g in taken_proper s.table t u m.formed f s.equations o refl p.0 p.1 (h.proper f g) (k.proper f g);
        past = m.past;
      };
      grows = record { next = omega arith; names = λ f g. g; back = λ φ r. (((solves (filling φ)).0 r.0).0, r.1) };
      sound = λ φ f r.
          opened_injective (closed φ t) (closed φ u)
          (sym (closes φ t (h.proper (filling φ) r.1)) ∙ ((solves (filling φ)).0 r.0).1 ∙ closes φ u (k.proper (filling φ) r.1));
      complete = λ φ f r e. (
        φ,
        agree_refl s.next φ,
        ((solves (filling φ)).1 (r.0, closes φ t (h.proper (filling φ) r.1) ∙ ap shape_of_type e ∙ sym (closes φ u (k.proper (filling φ) r.1))), r.1),
      );
    }

plain : (n : ℕ) (t : TypeShape) (s : EquationSystem) → bound_of t ≡ 0 → ((f : Filling) → IsProper f t) → IsShapeOf n t s
plain n t s e h = record { bounded = omega arith; proper = λ f k. h f }

-- what can't be typed
pub gathers_refused : (n : ℕ) (idents : List IdentKind) (P : Assign → Type 0) (s : EquationSystem) → IsMade n idents s → ((φ : Assign) → Fits n idents φ → P φ → ⊥)
    → Gathers n idents P s (system_refused s)
gathers_refused n idents P s m h =
    gathers_map n idents (λ φ. ◌≡◌ {A = NominalType} types.unit (types.names 0)) P s (system_refused s)
    (λ φ f m e. let d : ◌≡◌ {A = NominalType} types.unit (types.names 0) = e in cc) (λ φ f m p. absurd (h φ f p))
    (gathers_equate n idents unit (names 0) s m (plain n unit s refl (λ f. tt)) (plain n (names 0) s refl (λ f. tt)))

-- one after the other
pub gathers_then : (n : ℕ) (idents : List IdentKind) (P Q : Assign → Type 0) (s s1 s2 : EquationSystem) → Gathers n idents P s s1 → Gathers n idents Q s1 s2
    → ((φ ψ : Assign) → Agree s.next φ ψ → Q φ → Q ψ) → length idents ≤ s.next → Gathers n idents (λ φ. P φ × Q φ) s s2
gathers_then n idents P Q s s1 s2 g h stable past = record {
  made = h.made;
  grows = grows_on n s s1 s2 g.grows h.grows;
  sound = λ φ f m. (g.sound φ f (h.grows.back φ m), h.sound φ f m);
  complete = λ φ f m pq.
      let a = g.complete φ f m pq.0 in
      let b = h.complete a.0 (fits_same n idents φ a.0 (below_idents (length idents) s.next φ a.0 past a.1) f) a.2 (stable φ a.0 a.1 pq.1) in
      (b.0, agree_on s.next s1.next φ a.0 b.0 g.grows.next a.1 b.1, b.2);
}

-- the term is what is wanted, with the kinds by the types of holes
abbrev pub TypedBy : List NominalConstructor → List IdentKind → Assign → RawTerm → Want → Type 0
TypedBy cs idents φ t w = IsTypedRaw cs (kinds_by φ idents) (with_sorts (kinds_by φ idents) t) w

pub typed_same : (cs : List NominalConstructor) (idents : List IdentKind) (φ ψ : Assign) (t : RawTerm) (w v : Want) → Agree (length idents) φ ψ → w ≡ v
    → TypedBy cs idents φ t w → TypedBy cs idents ψ t v
typed_same cs idents φ ψ t w v a e h =
    subst (λ ks. IsTypedRaw cs ks (with_sorts ks t) v) (kinds_same idents φ ψ a)
    (subst (λ (u : Want). TypedBy cs idents φ t u) e h)

-- Wants for what is inside, and the new system: by its solutions each stands in a relation to the old wants.
pub record Opens (n : ℕ) (idents : List IdentKind) (R : Assign → Want → Want → Type 0) (s : EquationSystem) (w v : Wanting) (s' : EquationSystem) : Type 0 where
  pub made : IsMade n idents s'
  pub grows : Grows n s s'
  pub left : Suits n w s'
  pub right : Suits n v s'
  pub sound : (φ : Assign) → Fits n idents φ → Meets n φ s' → R φ (want_by φ w) (want_by φ v)
  pub complete : (φ : Assign) → Fits n idents φ → Meets n φ s → (a b : Want) → R φ a b → (ψ : Assign) × Agree s.next φ ψ × Meets n ψ s' × (a ≡ want_by ψ w) × (b ≡ want_by ψ v)

-- one term inside
pub opens_one : (n : ℕ) (cs : List NominalConstructor) (idents : List IdentKind) (R : Assign → Want → Want → Type 0) (s s1 s2 : EquationSystem) (w : Wanting) (t : RawTerm)
    → length idents ≤ s.next → Opens n idents R s w nothing s1 → Gathers n idents (λ φ. TypedBy cs idents φ t (want_by φ w)) s1 s2
    → Gathers n idents (λ φ. (a : Want) × R φ a typing.nothing × TypedBy cs idents φ t a) s s2
opens_one n cs idents R s s1 s2 w t past o g = record {
  made = g.made;
  grows = grows_on n s s1 s2 o.grows g.grows;
  sound = λ φ f m. (want_by φ w, o.sound φ f (g.grows.back φ m), g.sound φ f m);
  complete = λ φ f m h.
      let a = o.complete φ f m h.0 typing.nothing h.1 in
      let same = below_idents (length idents) s.next φ a.0 past a.1 in
      let b = g.complete a.0 (fits_same n idents φ a.0 same f) a.2 (typed_same cs idents φ a.0 t h.0 (want_by a.0 w) same a.3 h.2) in
      (b.0, agree_on s.next s1.next φ a.0 b.0 o.grows.next a.1 b.1, b.2);
}

-- The same where nothing is asked of a left want that a term can't have.
pub record OpensFor (n : ℕ) (idents : List IdentKind) (Q R : Assign → Want → Want → Type 0) (s : EquationSystem) (w v : Wanting) (s' : EquationSystem) : Type 0 where
  pub made : IsMade n idents s'
  pub grows : Grows n s s'
  pub left : Suits n w s'
  pub right : Suits n v s'
  pub sound : (φ : Assign) → Fits n idents φ → Meets n φ s' → R φ (want_by φ w) (want_by φ v)
  pub complete : (φ : Assign) → Fits n idents φ → Meets n φ s → (a b : Want) → Q φ a b → R φ a b → (ψ : Assign) × Agree s.next φ ψ × Meets n ψ s' × (a ≡ want_by ψ w) × (b ≡ want_by ψ v)

pub opens_for : (n : ℕ) (idents : List IdentKind) (Q R : Assign → Want → Want → Type 0) (s s' : EquationSystem) (w v : Wanting) → Opens n idents R s w v s' → OpensFor n idents Q R s w v s'
opens_for n idents Q R s s' w v o = record {
  made = o.made;
  grows = o.grows;
  left = o.left;
  right = o.right;
  sound = o.sound;
  complete = λ φ f m a b q r. o.complete φ f m a b r;
}

-- two terms inside
pub opens_two_for : (n : ℕ) (cs : List NominalConstructor) (idents : List IdentKind) (Q R : Assign → Want → Want → Type 0) (s s1 s2 s3 : EquationSystem) (w v : Wanting) (t u : RawTerm)
    → ((φ : Assign) (a b : Want) → TypedBy cs idents φ t a → Q φ a b) → length idents ≤ s.next → OpensFor n idents Q R s w v s1
    → Gathers n idents (λ φ. TypedBy cs idents φ t (want_by φ w)) s1 s2 → Gathers n idents (λ φ. TypedBy cs idents φ u (want_by φ v)) s2 s3
    → Gathers n idents (λ φ. (a : Want) × (b : Want) × R φ a b × TypedBy cs idents φ t a × TypedBy cs idents φ u b) s s3
opens_two_for n cs idents Q R s s1 s2 s3 w v t u possible past o g h = record {
  made = h.made;
  grows = grows_on n s s1 s3 o.grows (grows_on n s1 s2 s3 g.grows h.grows);
  sound = λ φ f m.
      let m1 = h.grows.back φ m in
      (want_by φ w, want_by φ v, o.sound φ f (g.grows.back φ m1), g.sound φ f m1, h.sound φ f m);
  complete = λ φ f m k.
      let a = o.complete φ f m k.0 k.1 (possible φ k.0 k.1 k.3) k.2 in
      let same = below_idents (length idents) s.next φ a.0 past a.1 in
      let f1 = fits_same n idents φ a.0 same f in
      let b = g.complete a.0 f1 a.2 (typed_same cs idents φ a.0 t k.0 (want_by a.0 w) same a.3 k.3) in
      let past1 : length idents ≤ s1.next = let l = o.grows.next in omega arith in
      let same1 = below_idents (length idents) s1.next a.0 b.0 past1 b.1 in
      let onward : Agree (length idents) φ b.0 = λ x l. same x l ∙ same1 x l in
      let c = h.complete b.0 (fits_same n idents a.0 b.0 same1 f1) b.2
      (typed_same cs idents φ b.0 u k.1 (want_by b.0 v) onward (a.4 ∙ want_same n v s1 a.0 b.0 b.1 o.right) k.4) in
      (c.0, agree_on s.next s1.next φ a.0 c.0 o.grows.next a.1 (agree_on s1.next s2.next a.0 b.0 c.0 g.grows.next b.1 c.1), c.2);
}

pub opens_two : (n : ℕ) (cs : List NominalConstructor) (idents : List IdentKind) (R : Assign → Want → Want → Type 0) (s s1 s2 s3 : EquationSystem) (w v : Wanting) (t u : RawTerm)
    → length idents ≤ s.next → Opens n idents R s w v s1 → Gathers n idents (λ φ. TypedBy cs idents φ t (want_by φ w)) s1 s2
    → Gathers n idents (λ φ. TypedBy cs idents φ u (want_by φ v)) s2 s3
    → Gathers n idents (λ φ. (a : Want) × (b : Want) × R φ a b × TypedBy cs idents φ t a × TypedBy cs idents φ u b) s s3
opens_two n cs idents R s s1 s2 s3 w v t u past o g h =
    let Q = λ (φ : Assign) (a b : Want). Unit {0} in
    opens_two_for n cs idents Q R s s1 s2 s3 w v t u (λ φ a b k. tt) past (opens_for n idents Q R s s1 w v o) g h

-- the same by another relation
pub opens_for_map : (n : ℕ) (idents : List IdentKind) (P R Q : Assign → Want → Want → Type 0) (s s' : EquationSystem) (w v : Wanting)
    → ((φ : Assign) (a b : Want) → R φ a b → Q φ a b) → ((φ : Assign) (a b : Want) → Q φ a b → R φ a b) → OpensFor n idents P R s w v s' → OpensFor n idents P Q s w v s'
opens_for_map n idents P R Q s s' w v to from o = record {
  made = o.made;
  grows = o.grows;
  left = o.left;
  right = o.right;
  sound = λ φ f m. to φ (want_by φ w) (want_by φ v) (o.sound φ f m);
  complete = λ φ f m a b p q. o.complete φ f m a b p (from φ a b q);
}
