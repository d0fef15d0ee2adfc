-- Words that stand where names belong: binders and places of swappings.
use Rattle.std.proofs.Common.{◌≡◌, ◌<◌, ◌≤◌, ◌∙◌, ℕ, List, Bool, true, false, length, refl, sym, ap, subst, arith}
use Rattle.ap_defs.specs.declared.terms.Id.{Id}
use Rattle.ap_defs.specs.Types.{NominalType, TypeShape, hole, unit, names, base, pair, list, abs}
use Rattle.ap_defs.specs.Types as types
use Rattle.ap_defs.specs.Typing as typing
use Rattle.ap_defs.specs.Typing.{Want, one}
use Rattle.ap_types.specs.Equations.{Filling, filled, IsNameType, GivesNames}
use Rattle.ap_program.specs.RawTyping.{IsOfSort, AreOfOneSort}
use Rattle.ap_kinds.specs.declared.kinds.IdentKind.{IdentKind}
use Rattle.ap_kinds.specs.Sorts.{id_with_sort}
use Rattle.ap_kinds.specs.Systems.{EquationSystem, equate, with_hole, system_refused, shape_of_type}
use Rattle.ap_kinds.specs.Gathering.{Wanting, whole, typed, nothing, more, cell, typed_cell, inside_abstraction, new_body, NameHole, no_place, place_if, is_of_class, name_place, number_of_id, one_sort}
use Rattle.ap_kinds.proofs.Assignments.{Assign, sort_of, filling, closed, IsProper, IsNamesShape, Agree, closed_same, names_snoc, snoc_names, is_name_type, name_shape, agree_on}
use Rattle.ap_kinds.proofs.IdentLemmas.{kinds_by, Fits, kinds_same, fits_same, class_here, place_sort, sort_place}
use Rattle.ap_kinds.proofs.Gathers.{Meets, IsMade, IsShapeOf, Suits, want_by, grows_on, shape_grows, suits_grows, want_same, below_idents, Gathers, gathers_map, gathers_equate, gathers_refused, gathers_then, Opens}
use Rattle.ap_kinds.proofs.Steps.{made_hole, grows_hole, made_name, grows_name, hole_filled, hole_shape, gathers_meet}

-- the word is of the sort, by the types of holes
abbrev pub SortBy : List IdentKind → Assign → Id → ℕ → Type 0
SortBy idents φ i k = IsOfSort (kinds_by φ idents) (id_with_sort (kinds_by φ idents) i) k

abbrev pub HasSort : List IdentKind → Id → Assign → Type 0
HasSort idents i φ = (k : ℕ) × SortBy idents φ i k

pub sort_same : (idents : List IdentKind) (i : Id) (k : ℕ) (φ ψ : Assign) → Agree (length idents) φ ψ → SortBy idents φ i k → SortBy idents ψ i k
sort_same idents i k φ ψ a h = subst (λ ks. IsOfSort ks (id_with_sort ks i) k) (kinds_same idents φ ψ a) h

-- A place of a name: its hole must be a name type, and is the one of a word's sort.
pub record IsPlace (n : ℕ) (idents : List IdentKind) (i : Id) (s : EquationSystem) (p : NameHole) : Type 0 where
  pub gathers : Gathers n idents (HasSort idents i) s p.system
  pub below : p.hole < p.system.next
  pub named : (f : Filling) → GivesNames n f p.system.names → IsNameType n (f p.hole)
  pub same : (φ : Assign) (k : ℕ) → Fits n idents φ → SortBy idents φ i k → φ p.hole ≡ types.names k

place_steps : (n : ℕ) (idents : List IdentKind) (i : Id) (s : EquationSystem) (b : Bool) → is_of_class idents i ≡ b → IsMade n idents s → IsPlace n idents i s (place_if b (number_of_id i) s)
place_steps n idents i s true e m =
    let l = class_here idents i e in
    let below : number_of_id i < s.next = let past = m.past in omega arith in
    record {
      gathers = record {
        made = made_name n idents s (number_of_id i) below m;
        grows = grows_name n s (number_of_id i);
        sound = λ φ f r.
            let k = is_name_type n (φ (number_of_id i)) (names_snoc n (filling φ) s.names (number_of_id i) r.1).1 in
            (k.0, sort_place n idents φ i k.0 e k.1);
        complete = λ φ f r h.
            let k = place_sort n idents φ i h.0 f h.1 in
            (φ, (λ x o. refl), (r.0, snoc_names n (filling φ) s.names (number_of_id i) r.1 (subst (λ a. IsNameType n (shape_of_type a)) (sym k.1) k.2)));
      };
      below = below;
      named = λ f g. (names_snoc n f s.names (number_of_id i) g).1;
      same = λ φ k f h. (place_sort n idents φ i k f h).1;
    }
place_steps n idents i s false e m =
    let never : (φ : Assign) → Fits n idents φ → HasSort idents i φ → ⊥ = λ φ f h. let c = (place_sort n idents φ i h.0 f h.1).0 in cc in
    let g = gathers_refused n idents (HasSort idents i) s m never in
    let s1 = system_refused s in
    let s2 = with_hole s1 in
    let m2 = made_hole n idents s1 g.made in
    record {
      gathers = record {
        made = made_name n idents s2 s.next (omega arith) m2;
        grows = grows_on n s s1 (no_place s).system g.grows (grows_on n s1 s2 (no_place s).system (grows_hole n s1) (grows_name n s2 s.next));
        sound = λ φ f r. g.sound φ f ((grows_hole n s1).back φ ((grows_name n s2 s.next).back φ r));
        complete = λ φ f r h. absurd (never φ f h);
      };
      below = omega arith;
      named = λ f r. (names_snoc n f s.names s.next r).1;
      same = λ φ k f h. absurd (never φ f (k, h));
    }

pub is_place : (n : ℕ) (idents : List IdentKind) (i : Id) (s : EquationSystem) → IsMade n idents s → IsPlace n idents i s (name_place idents i s)
is_place n idents i s m = place_steps n idents i s (is_of_class idents i) refl m

-- Abstractions.
abbrev pub BodyOf : List IdentKind → Id → Wanting → Assign → Want → Want → Type 0
BodyOf idents i w φ a b = (k : ℕ) × (c : NominalType) × SortBy idents φ i k × (want_by φ w ≡ one (types.abs k c)) × (a ≡ one c) × (b ≡ typing.nothing)

-- with a hole for the binder
abbrev BodyAt : ℕ → Wanting → Assign → Want → Want → Type 0
BodyAt x w φ a b = (k : ℕ) × (c : NominalType) × (φ x ≡ types.names k) × (want_by φ w ≡ one (types.abs k c)) × (a ≡ one c) × (b ≡ typing.nothing)

left_named : (φ : Assign) (l : TypeShape) → IsNamesShape (filled (filling φ) l) → closed φ l ≡ types.names (sort_of (closed φ l))
left_named φ (hole x) h = of_type (φ x) h
  where
    of_type : (a : NominalType) → IsNamesShape (shape_of_type a) → a ≡ types.names (sort_of a)
    of_type (types.names s) h = refl
    of_type _ h = absurd h
left_named φ (names s) h = refl
left_named φ _ h = absurd h

left_proper : (f : Filling) (l : TypeShape) → IsNamesShape (filled f l) → IsProper f l
left_proper f (hole x) h = tt
left_proper f (names s) h = tt
left_proper f _ h = absurd h

opens_known_body : (n : ℕ) (idents : List IdentKind) (x : ℕ) (l t : TypeShape) (s : EquationSystem) → IsMade n idents s → x < s.next → IsShapeOf n (abs l t) s
    → ((φ : Assign) → Meets n φ s → (k : ℕ) × (φ x ≡ types.names k)) → Opens n idents (BodyAt x (whole (abs l t))) s (whole t) nothing (equate l (hole x) s)
opens_known_body n idents x l t s m below h named =
    let left : IsShapeOf n l s = record { bounded = let a = h.bounded in omega arith; proper = λ f r. left_proper f l (h.proper f r).0 } in
    let right : IsShapeOf n t s = record { bounded = let a = h.bounded in omega arith; proper = λ f r. (h.proper f r).1 } in
    let g = gathers_equate n idents l (hole x) s m left (hole_shape n x s below) in
    record {
      made = g.made;
      grows = g.grows;
      left = shape_grows n t s (equate l (hole x) s) g.grows right;
      right = tt;
      sound = λ φ f r.
          let k = named φ (g.grows.back φ r) in
          (k.0, closed φ t, k.1, ap (λ c. one (types.abs (sort_of c) (closed φ t))) (g.sound φ f r ∙ k.1), refl, refl);
      complete = λ φ f r a b z.
          let d : ◌≡◌ {A = Want} (one (types.abs (sort_of (closed φ l)) (closed φ t))) (one (types.abs z.0 z.1)) = z.3 in
          let sort : sort_of (closed φ l) ≡ z.0 = cc in
          let body : closed φ t ≡ z.1 = cc in
          let c = g.complete φ f r (left_named φ l (h.proper (filling φ) r.1).0 ∙ ap types.names sort ∙ sym z.2) in
          (c.0, c.1, c.2, z.4 ∙ ap one (sym body) ∙ ap one (closed_same s.next φ c.0 c.1 t right.bounded), z.5);
    }

opens_typed_body : (n : ℕ) (idents : List IdentKind) (x k : ℕ) (t : NominalType) (s : EquationSystem) → IsMade n idents s → x < s.next
    → Opens n idents (BodyAt x (typed (types.abs k t))) s (typed t) nothing (equate (names k) (hole x) s)
opens_typed_body n idents x k t s m below =
    let g = gathers_equate n idents (names k) (hole x) s m (record { bounded = omega arith; proper = λ f r. tt }) (hole_shape n x s below) in
    record {
      made = g.made;
      grows = g.grows;
      left = tt;
      right = tt;
      sound = λ φ f r. (k, t, sym (g.sound φ f r), refl, refl, refl);
      complete = λ φ f r a b z.
          let d : ◌≡◌ {A = Want} (one (types.abs k t)) (one (types.abs z.0 z.1)) = z.3 in
          let sort : k ≡ z.0 = cc in
          let body : t ≡ z.1 = cc in
          let c = g.complete φ f r (ap types.names sort ∙ sym z.2) in
          (c.0, c.1, c.2, z.4 ∙ ap one (sym body), z.5);
    }

opens_new_body : (n : ℕ) (idents : List IdentKind) (x : ℕ) (w : Wanting) (s : EquationSystem) → IsMade n idents s → x < s.next → Suits n w s
    → ((f : Filling) → GivesNames n f s.names → IsNameType n (f x))
    → ((φ : Assign) → Meets n φ s → (k : ℕ) × (φ x ≡ types.names k)) → Opens n idents (BodyAt x w) s (new_body x w s).want nothing (new_body x w s).system
opens_new_body n idents x w s m below h must named =
    let s1 = with_hole s in
    let m1 = made_hole n idents s m in
    let k : IsShapeOf n (abs (hole x) (hole s.next)) s1 = record { bounded = omega arith; proper = λ f r. (name_shape n (f x) (must f r), tt) } in
    let g = gathers_meet n idents w (abs (hole x) (hole s.next)) s1 m1 (suits_grows n w s s1 (grows_hole n s) h) k in
    record {
      made = g.made;
      grows = grows_on n s s1 (new_body x w s).system (grows_hole n s) g.grows;
      left = hole_shape n s.next (new_body x w s).system (let a = g.grows.next in omega arith);
      right = tt;
      sound = λ φ f r.
          let i = named φ ((grows_hole n s).back φ (g.grows.back φ r)) in
          (i.0, φ s.next, i.1, g.sound φ f r ∙ ap (λ c. one (types.abs (sort_of c) (φ s.next))) i.1, refl, refl);
      complete = λ φ f r a b z.
          let p = hole_filled n idents s φ z.1 m r in
          let fits = fits_same n idents φ p.0 (below_idents (length idents) s.next φ p.0 m.past p.1) f in
          let binder : p.0 x ≡ types.names z.0 = sym (p.1 x below) ∙ z.2 in
          let e : want_by p.0 w ≡ one (types.abs (sort_of (p.0 x)) (p.0 s.next)) =
          sym (want_same n w s φ p.0 p.1 h) ∙ z.3 ∙ ap (λ c. one (types.abs (sort_of c) z.1)) (sym binder) ∙ ap (λ c. one (types.abs (sort_of (p.0 x)) c)) (sym p.3) in
          let c = g.complete p.0 fits p.2 e in
          (c.0, agree_on s.next s1.next φ p.0 c.0 (omega arith) p.1 c.1, c.2, z.4 ∙ ap one (sym p.3 ∙ c.1 s.next (omega arith)), z.5);
    }

opens_body : (n : ℕ) (idents : List IdentKind) (x : ℕ) (w : Wanting) (s : EquationSystem) → IsMade n idents s → x < s.next → Suits n w s
    → ((f : Filling) → GivesNames n f s.names → IsNameType n (f x))
    → ((φ : Assign) → Meets n φ s → (k : ℕ) × (φ x ≡ types.names k)) → Opens n idents (BodyAt x w) s (inside_abstraction x w s).want nothing (inside_abstraction x w s).system
opens_body n idents x (whole (abs l t)) s m below h must named = opens_known_body n idents x l t s m below h named
opens_body n idents x (whole (hole y)) s m below h must named = opens_new_body n idents x (whole (hole y)) s m below h must named
opens_body n idents x (whole unit) s m below h must named = opens_new_body n idents x (whole unit) s m below h must named
opens_body n idents x (whole (names k)) s m below h must named = opens_new_body n idents x (whole (names k)) s m below h must named
opens_body n idents x (whole (base d)) s m below h must named = opens_new_body n idents x (whole (base d)) s m below h must named
opens_body n idents x (whole (pair t u)) s m below h must named = opens_new_body n idents x (whole (pair t u)) s m below h must named
opens_body n idents x (whole (list t)) s m below h must named = opens_new_body n idents x (whole (list t)) s m below h must named
opens_body n idents x (typed (types.abs k t)) s m below h must named = opens_typed_body n idents x k t s m below
opens_body n idents x (typed types.unit) s m below h must named = opens_new_body n idents x (typed types.unit) s m below h must named
opens_body n idents x (typed (types.names k)) s m below h must named = opens_new_body n idents x (typed (types.names k)) s m below h must named
opens_body n idents x (typed (types.base d)) s m below h must named = opens_new_body n idents x (typed (types.base d)) s m below h must named
opens_body n idents x (typed (types.pair t u)) s m below h must named = opens_new_body n idents x (typed (types.pair t u)) s m below h must named
opens_body n idents x (typed (types.list t)) s m below h must named = opens_new_body n idents x (typed (types.list t)) s m below h must named
opens_body n idents x (typed_cell t) s m below h must named = opens_new_body n idents x (typed_cell t) s m below h must named
opens_body n idents x nothing s m below h must named = opens_new_body n idents x nothing s m below h must named
opens_body n idents x (more c rest) s m below h must named = opens_new_body n idents x (more c rest) s m below h must named
opens_body n idents x (cell y) s m below h must named = opens_new_body n idents x (cell y) s m below h must named

pub opens_abstraction : (n : ℕ) (idents : List IdentKind) (i : Id) (w : Wanting) (s : EquationSystem) → IsMade n idents s → Suits n w s
    → Opens n idents (BodyOf idents i w) s (inside_abstraction (name_place idents i s).hole w (name_place idents i s).system).want nothing
    (inside_abstraction (name_place idents i s).hole w (name_place idents i s).system).system
opens_abstraction n idents i w s m h =
    let place = name_place idents i s in
    let p = is_place n idents i s m in
    let s1 = place.system in
    let g = p.gathers in
    let named : (φ : Assign) → Meets n φ s1 → (k : ℕ) × (φ place.hole ≡ types.names k) = λ φ r. (let k = is_name_type n (φ place.hole) (p.named (filling φ) r.1) in (k.0, k.1)) in
    let o = opens_body n idents place.hole w s1 g.made p.below (suits_grows n w s s1 g.grows h) p.named named in
    record {
      made = o.made;
      grows = grows_on n s s1 (inside_abstraction place.hole w s1).system g.grows o.grows;
      left = o.left;
      right = o.right;
      sound = λ φ f r.
          let z = o.sound φ f r in
          let k = g.sound φ f (o.grows.back φ r) in
          let e : ◌≡◌ {A = NominalType} (types.names k.0) (types.names z.0) = sym (p.same φ k.0 f k.1) ∙ z.2 in
          let same : k.0 ≡ z.0 = cc in
          (z.0, z.1, subst (SortBy idents φ i) same k.1, z.3, z.4, z.5);
      complete = λ φ f r a b z.
          let c = g.complete φ f r (z.0, z.2) in
          let under = below_idents (length idents) s.next φ c.0 m.past c.1 in
          let fits = fits_same n idents φ c.0 under f in
          let d = o.complete c.0 fits c.2 a b (z.0, z.1, p.same c.0 z.0 fits (sort_same idents i z.0 φ c.0 under z.2), sym (want_same n w s φ c.0 c.1 h) ∙ z.3, z.4, z.5) in
          (d.0, agree_on s.next s1.next φ c.0 d.0 g.grows.next c.1 d.1, d.2, d.3, d.4);
    }

-- Swappings.
abbrev pub OneSort : List IdentKind → Id → Id → Assign → Type 0
OneSort idents i j φ = AreOfOneSort (kinds_by φ idents) (id_with_sort (kinds_by φ idents) i) (id_with_sort (kinds_by φ idents) j)

pub one_sort_same : (idents : List IdentKind) (i j : Id) (φ ψ : Assign) → Agree (length idents) φ ψ → OneSort idents i j φ → OneSort idents i j ψ
one_sort_same idents i j φ ψ a h = (h.0, sort_same idents i h.0 φ ψ a h.1, sort_same idents j h.0 φ ψ a h.2)

pub gathers_one_sort : (n : ℕ) (idents : List IdentKind) (i j : Id) (s : EquationSystem) → IsMade n idents s → Gathers n idents (OneSort idents i j) s (one_sort idents i j s)
gathers_one_sort n idents i j s m =
    let first = name_place idents i s in
    let p = is_place n idents i s m in
    let second = name_place idents j first.system in
    let q = is_place n idents j first.system p.gathers.made in
    let s2 = second.system in
    let g = gathers_equate n idents (hole first.hole) (hole second.hole) s2 q.gathers.made
    (hole_shape n first.hole s2 (let a = p.below in let b = q.gathers.grows.next in omega arith)) (hole_shape n second.hole s2 q.below) in
    let last : Gathers n idents (OneSort idents i j) s2 (one_sort idents i j s) =
    gathers_map n idents (λ φ. φ first.hole ≡ φ second.hole) (OneSort idents i j) s2 (one_sort idents i j s)
    (λ φ f r e.
    let r2 = g.grows.back φ r in
    let a = p.gathers.sound φ f (q.gathers.grows.back φ r2) in
    let b = q.gathers.sound φ f r2 in
    let d : ◌≡◌ {A = NominalType} (types.names b.0) (types.names a.0) = sym (q.same φ b.0 f b.1) ∙ sym e ∙ p.same φ a.0 f a.1 in
    let same : b.0 ≡ a.0 = cc in
    (a.0, a.1, subst (SortBy idents φ j) same b.1))
    (λ φ f r h. p.same φ h.0 f h.1 ∙ sym (q.same φ h.0 f h.2)) g in
    let past1 : length idents ≤ first.system.next = p.gathers.made.past in
    let tail = gathers_then n idents (HasSort idents j) (OneSort idents i j) first.system s2 (one_sort idents i j s) q.gathers last
    (λ φ ψ a h. one_sort_same idents i j φ ψ (below_idents (length idents) first.system.next φ ψ past1 a) h) past1 in
    let all = gathers_then n idents (HasSort idents i) (λ φ. HasSort idents j φ × OneSort idents i j φ) s first.system (one_sort idents i j s) p.gathers tail
    (λ φ ψ a h.
    let under = below_idents (length idents) s.next φ ψ m.past a in
    ((h.0.0, sort_same idents j h.0.0 φ ψ under h.0.1), one_sort_same idents i j φ ψ under h.1)) m.past in
    gathers_map n idents (λ φ. HasSort idents i φ × (HasSort idents j φ × OneSort idents i j φ)) (OneSort idents i j) s (one_sort idents i j s)
    (λ φ f r h. h.1.1) (λ φ f r h. ((h.0, h.1), ((h.0, h.2), h))) all
