-- A goal's equations are solved by the types that type it.
use Rattle.std.proofs.Common.{◌≡◌, ◌<◌, ◌+◌, ◌∙◌, ℕ, zero, suc, List, [], ◌∷◌, Bool, true, false, length, refl, sym, ap, subst, arith, Option, Some, None}
use Rattle.std.specs.Prelude.{if◌then◌else◌}
use Rattle.ap_defs.specs.declared.terms.Name.{Name}
use Rattle.ap_defs.specs.declared.terms.Var.{Var}
use Rattle.ap_defs.specs.RawTerms as raw
use Rattle.ap_defs.specs.RawTerms.{RawTerm}
use Rattle.ap_defs.specs.Types.{NominalType, NominalConstructor, NominalSignature, hole, unit, names, pair, abs}
use Rattle.ap_defs.specs.Types as types
use Rattle.ap_defs.specs.Typing.{Want, one}
use Rattle.ap_defs.specs.Goals.{GoalOver, succeed, atom, equal, fresh, both, either, exists, new}
use Rattle.ap_types.specs.Equations.{IsNameType}
use Rattle.ap_program.specs.RawTyping.{IsNameOf, IsVarOf, HasRawType}
use Rattle.ap_program.specs.Typed.{HaveTypes, predicate_at, AreArguments, IsTypedGoal}
use Rattle.ap_kinds.specs.declared.kinds.IdentKind.{IdentKind}
use Rattle.ap_kinds.specs.Sorts.{name_with_sort, terms_with_sorts, goal_with_sorts}
use Rattle.ap_kinds.specs.Systems.{EquationSystem, with_name_hole, with_hole, system_refused, shape_of_type, is_name_at, is_var_at}
use Rattle.ap_kinds.specs.Gathering.{whole, typed, gather_term, gather_terms, gather_arguments, gather_atom, gather_equal, gather_fresh, gather_goal}
use Rattle.ap_kinds.proofs.Assignments.{Assign, filling, Agree, names_snoc, snoc_names, is_name_type, agree_on}
use Rattle.ap_kinds.proofs.IdentLemmas.{kinds_by, Fits, kinds_same, sort_of_name, own_sort, own_name, var_of_type, type_of_var}
use Rattle.ap_kinds.proofs.Gathers.{IsMade, grows_on, suits_grows, below_idents, Gathers, gathers_map, gathers_none, gathers_refused, gathers_then, TypedBy, Opens, opens_two}
use Rattle.ap_kinds.proofs.Steps.{made_hole, grows_hole, made_name, grows_name, hole_filled, hole_shape}
use Rattle.ap_kinds.proofs.Walking.{gathers_term}

-- terms with types, by the types of holes
abbrev pub TermsBy : List NominalConstructor → List IdentKind → List RawTerm → List NominalType → Assign → Type 0
TermsBy cs idents ts as' φ = HaveTypes (HasRawType cs (kinds_by φ idents)) (terms_with_sorts (kinds_by φ idents) ts) as'

terms_same : (cs : List NominalConstructor) (idents : List IdentKind) (ts : List RawTerm) (as' : List NominalType) (φ ψ : Assign) → Agree (length idents) φ ψ → TermsBy cs idents ts as' φ → TermsBy cs idents ts as' ψ
terms_same cs idents ts as' φ ψ a h = subst (λ ks. HaveTypes (HasRawType cs ks) (terms_with_sorts ks ts) as') (kinds_same idents φ ψ a) h

gathers_typed : (n : ℕ) (cs : List NominalConstructor) (idents : List IdentKind) (t : RawTerm) (a : NominalType) (s : EquationSystem) → IsMade n idents s
    → Gathers n idents (λ φ. TypedBy cs idents φ t (one a)) s (gather_term cs idents t (typed a) s)
gathers_typed n cs idents t a s m =
    gathers_term n cs idents t (typed a) s m tt

pub gathers_terms : (n : ℕ) (cs : List NominalConstructor) (idents : List IdentKind) (ts : List RawTerm) (as' : List NominalType) (s : EquationSystem) → IsMade n idents s
    → Gathers n idents (TermsBy cs idents ts as') s (gather_terms cs idents ts as' s)
gathers_terms n cs idents [] [] s m = gathers_none n idents (TermsBy cs idents [] []) s m (λ φ f r. tt)
gathers_terms n cs idents [] (a ∷ as') s m = gathers_refused n idents (TermsBy cs idents [] (a ∷ as')) s m (λ φ f h. h)
gathers_terms n cs idents (t ∷ ts) [] s m = gathers_refused n idents (TermsBy cs idents (t ∷ ts) []) s m (λ φ f h. h)
gathers_terms n cs idents (t ∷ ts) (a ∷ as') s m =
    let s1 = gather_term cs idents t (typed a) s in
    let g = gathers_typed n cs idents t a s m in
    let k = gathers_terms n cs idents ts as' s1 g.made in
    gathers_map n idents (λ φ. TypedBy cs idents φ t (one a) × TermsBy cs idents ts as' φ) (TermsBy cs idents (t ∷ ts) (a ∷ as')) s (gather_terms cs idents ts as' s1)
    (λ φ f r h. h) (λ φ f r h. h)
    (gathers_then n idents (λ φ. TypedBy cs idents φ t (one a)) (TermsBy cs idents ts as') s s1 (gather_terms cs idents ts as' s1) g k
    (λ φ ψ b h. terms_same cs idents ts as' φ ψ (below_idents (length idents) s.next φ ψ m.past b) h) m.past)

abbrev pub AtomBy : NominalSignature → List IdentKind → ℕ → List RawTerm → Assign → Type 0
AtomBy sig idents p ts φ = AreArguments (HasRawType sig.constructors (kinds_by φ idents)) (terms_with_sorts (kinds_by φ idents) ts) (predicate_at sig.predicates p)

gathers_arguments : (n : ℕ) (cs : List NominalConstructor) (idents : List IdentKind) (ts : List RawTerm) (o : Option (List NominalType)) (s : EquationSystem) → IsMade n idents s
    → Gathers n idents (λ φ. AreArguments (HasRawType cs (kinds_by φ idents)) (terms_with_sorts (kinds_by φ idents) ts) o) s (gather_arguments cs idents ts o s)
gathers_arguments n cs idents ts None s m =
    gathers_refused n idents (λ φ. AreArguments (HasRawType cs (kinds_by φ idents)) (terms_with_sorts (kinds_by φ idents) ts) None) s m (λ φ f h. h)
gathers_arguments n cs idents ts (Some as') s m = gathers_terms n cs idents ts as' s m

pub gathers_atom : (n : ℕ) (sig : NominalSignature) (idents : List IdentKind) (p : ℕ) (ts : List RawTerm) (s : EquationSystem) → IsMade n idents s
    → Gathers n idents (AtomBy sig idents p ts) s (gather_atom sig idents p ts s)
gathers_atom n sig idents p ts s m = gathers_arguments n sig.constructors idents ts (predicate_at sig.predicates p) s m

-- Two terms of one type.
abbrev SameOf : Assign → Want → Want → Type 0
SameOf φ a b = (c : NominalType) × (a ≡ one c) × (b ≡ one c)

opens_equal : (n : ℕ) (idents : List IdentKind) (s : EquationSystem) → IsMade n idents s → Opens n idents SameOf s (whole (hole s.next)) (whole (hole s.next)) (with_hole s)
opens_equal n idents s m = record {
  made = made_hole n idents s m;
  grows = grows_hole n s;
  left = hole_shape n s.next (with_hole s) (omega arith);
  right = hole_shape n s.next (with_hole s) (omega arith);
  sound = λ φ f r. (φ s.next, refl, refl);
  complete = λ φ f r a b z. let p = hole_filled n idents s φ z.0 m r in (p.0, p.1, p.2, z.1 ∙ ap one (sym p.3), z.2 ∙ ap one (sym p.3));
}

abbrev pub EqualBy : List NominalConstructor → List IdentKind → RawTerm → RawTerm → Assign → Type 0
EqualBy cs idents t u φ = (a : NominalType) × TypedBy cs idents φ t (one a) × TypedBy cs idents φ u (one a)

gathers_equal : (n : ℕ) (cs : List NominalConstructor) (idents : List IdentKind) (t u : RawTerm) (s : EquationSystem) → IsMade n idents s
    → Gathers n idents (EqualBy cs idents t u) s (gather_equal cs idents t u s)
gathers_equal n cs idents t u s m =
    let w = whole (hole s.next) in
    let s1 = with_hole s in
    let o = opens_equal n idents s m in
    let g = gathers_term n cs idents t w s1 o.made o.left in
    let s2 = gather_term cs idents t w s1 in
    let k = gathers_term n cs idents u w s2 g.made (suits_grows n w s1 s2 g.grows o.right) in
    gathers_map n idents (λ φ. (a : Want) × (b : Want) × SameOf φ a b × TypedBy cs idents φ t a × TypedBy cs idents φ u b) (EqualBy cs idents t u) s (gather_term cs idents u w s2)
    (λ φ f r z. (z.2.0, subst (λ (v : Want). TypedBy cs idents φ t v) z.2.1 z.3, subst (λ (v : Want). TypedBy cs idents φ u v) z.2.2 z.4))
    (λ φ f r z. (one z.0, one z.0, (z.0, refl, refl), z.1, z.2))
    (opens_two n cs idents SameOf s s1 s2 (gather_term cs idents u w s2) w w t u m.past o g k)

-- A name and a term.
abbrev FreshOf : ℕ → Assign → Want → Want → Type 0
FreshOf n φ a b = (k : ℕ) × (c : NominalType) × (k < n) × (a ≡ one (types.names k)) × (b ≡ one c)

opens_fresh : (n : ℕ) (idents : List IdentKind) (s : EquationSystem) → IsMade n idents s
    → Opens n idents (FreshOf n) s (whole (hole s.next)) (whole (hole (s.next + 1))) (with_name_hole s.next (with_hole (with_hole s)))
opens_fresh n idents s m =
    let s1 = with_hole s in
    let s2 = with_hole s1 in
    let s3 = with_name_hole s.next s2 in
    let m1 = made_hole n idents s m in
    let up = grows_on n s s1 s2 (grows_hole n s) (grows_hole n s1) in
    record {
      made = made_name n idents s2 s.next (omega arith) (made_hole n idents s1 m1);
      grows = grows_on n s s2 s3 up (grows_name n s2 s.next);
      left = hole_shape n s.next s3 (omega arith);
      right = hole_shape n (s.next + 1) s3 (omega arith);
      sound = λ φ f r.
          let k = is_name_type n (φ s.next) (names_snoc n (filling φ) s.names s.next r.1).1 in
          (k.0, φ (s.next + 1), k.2, ap one k.1, refl);
      complete = λ φ f r a b z.
          let p = hole_filled n idents s φ (types.names z.0) m r in
          let o = hole_filled n idents s1 p.0 z.1 m1 p.2 in
          let first : o.0 s.next ≡ types.names z.0 = sym (o.1 s.next (omega arith)) ∙ p.3 in (
            o.0,
            agree_on s.next s1.next φ p.0 o.0 (omega arith) p.1 o.1,
            (o.2.0, snoc_names n (filling o.0) s.names s.next o.2.1 (subst (λ c. IsNameType n (shape_of_type c)) (sym first) z.2)),
            z.3 ∙ ap one (sym first),
            z.4 ∙ ap one (sym o.3),
          );
    }

-- a term of a name type is a name or a variable, and its name type is declared
named_term : (n : ℕ) (cs : List NominalConstructor) (idents : List IdentKind) (φ : Assign) (t : RawTerm) (k : ℕ) → Fits n idents φ → TypedBy cs idents φ t (one (types.names k)) → k < n
named_term n cs idents φ (raw.name a) k f h = (sort_of_name n idents φ a k f h).2
named_term n cs idents φ (raw.var x) k f h = let r = type_of_var idents φ x (types.names k) h in f.declared x.num k r.0 r.1
named_term n cs idents φ (raw.swapped i j t) k f h = named_term n cs idents φ t k f h.1
named_term n cs idents φ raw.unit k f h = absurd h
named_term n cs idents φ (raw.pair t u) k f h = absurd h
named_term n cs idents φ (raw.app zero t) k f h = absurd h
named_term n cs idents φ (raw.app (suc zero) t) k f h = absurd h
named_term n cs idents φ (raw.app (suc (suc j)) t) k f h = absurd h
named_term n cs idents φ (raw.abs i t) k f h = absurd h

abbrev pub FreshBy : List NominalConstructor → List IdentKind → RawTerm → RawTerm → Assign → Type 0
FreshBy cs idents t u φ = ((k : ℕ) × TypedBy cs idents φ t (one (types.names k))) × ((a : NominalType) × TypedBy cs idents φ u (one a))

gathers_fresh : (n : ℕ) (cs : List NominalConstructor) (idents : List IdentKind) (t u : RawTerm) (s : EquationSystem) → IsMade n idents s
    → Gathers n idents (FreshBy cs idents t u) s (gather_fresh cs idents t u s)
gathers_fresh n cs idents t u s m =
    let w = whole (hole s.next) in
    let v = whole (hole (s.next + 1)) in
    let s1 = with_name_hole s.next (with_hole (with_hole s)) in
    let o = opens_fresh n idents s m in
    let g = gathers_term n cs idents t w s1 o.made o.left in
    let s2 = gather_term cs idents t w s1 in
    let k = gathers_term n cs idents u v s2 g.made (suits_grows n v s1 s2 g.grows o.right) in
    gathers_map n idents (λ φ. (a : Want) × (b : Want) × FreshOf n φ a b × TypedBy cs idents φ t a × TypedBy cs idents φ u b) (FreshBy cs idents t u) s (gather_term cs idents u v s2)
    (λ φ f r z. ((z.2.0, subst (λ (x : Want). TypedBy cs idents φ t x) z.2.3 z.3), (z.2.1, subst (λ (x : Want). TypedBy cs idents φ u x) z.2.4 z.4)))
    (λ φ f r z. (one (types.names z.0.0), one z.1.0, (z.0.0, z.1.0, named_term n cs idents φ t z.0.0 f z.0.1, refl, refl), z.0.1, z.1.1))
    (opens_two n cs idents (FreshOf n) s s1 s2 (gather_term cs idents u v s2) w v t u m.past o g k)

-- Goals.
abbrev pub GoalBy : NominalSignature → List IdentKind → GoalOver RawTerm → Assign → Type 0
GoalBy sig idents goal φ = IsTypedGoal (HasRawType sig.constructors (kinds_by φ idents)) sig.predicates (kinds_by φ idents) (goal_with_sorts (kinds_by φ idents) goal)

pub goal_same : (sig : NominalSignature) (idents : List IdentKind) (goal : GoalOver RawTerm) (φ ψ : Assign) → Agree (length idents) φ ψ → GoalBy sig idents goal φ → GoalBy sig idents goal ψ
goal_same sig idents goal φ ψ a h = subst (λ ks. IsTypedGoal (HasRawType sig.constructors ks) sig.predicates ks (goal_with_sorts ks goal)) (kinds_same idents φ ψ a) h

abbrev VarBy : List IdentKind → Var → Assign → Type 0
VarBy idents x φ = (a : NominalType) × IsVarOf (kinds_by φ idents) x a

abbrev NameBy : List IdentKind → Name → Assign → Type 0
NameBy idents a φ = IsNameOf (kinds_by φ idents) (name_with_sort (kinds_by φ idents) a) (name_with_sort (kinds_by φ idents) a).sort

gathers_exists : (n : ℕ) (idents : List IdentKind) (x : Var) (s : EquationSystem) (b : Bool) → is_var_at idents x.num ≡ b → IsMade n idents s
    → Gathers n idents (VarBy idents x) s (if b then s else system_refused s)
gathers_exists n idents x s true e m = gathers_none n idents (VarBy idents x) s m (λ φ f r. (φ x.num, var_of_type idents φ x e))
gathers_exists n idents x s false e m = gathers_refused n idents (VarBy idents x) s m (λ φ f h. let c = (type_of_var idents φ x h.0 h.1).0 in cc)

gathers_new : (n : ℕ) (idents : List IdentKind) (a : Name) (s : EquationSystem) (b : Bool) → is_name_at idents a.num ≡ b → IsMade n idents s
    → Gathers n idents (NameBy idents a) s (if b then s else system_refused s)
gathers_new n idents a s true e m = gathers_none n idents (NameBy idents a) s m (λ φ f r. own_sort n idents φ a f e)
gathers_new n idents a s false e m =
    gathers_refused n idents (NameBy idents a) s m (λ φ f h. let c = own_name n idents φ a (name_with_sort (kinds_by φ idents) a).sort h in cc)

pub gathers_goal : (n : ℕ) (sig : NominalSignature) (idents : List IdentKind) (goal : GoalOver RawTerm) (s : EquationSystem) → IsMade n idents s
    → Gathers n idents (GoalBy sig idents goal) s (gather_goal sig idents goal s)
gathers_goal n sig idents succeed s m = gathers_none n idents (GoalBy sig idents succeed) s m (λ φ f r. tt)
gathers_goal n sig idents (atom p ts) s m = gathers_atom n sig idents p ts s m
gathers_goal n sig idents (equal t u) s m = gathers_equal n sig.constructors idents t u s m
gathers_goal n sig idents (fresh t u) s m = gathers_fresh n sig.constructors idents t u s m
gathers_goal n sig idents (both g h) s m =
    let s1 = gather_goal sig idents g s in
    let p = gathers_goal n sig idents g s m in
    let q = gathers_goal n sig idents h s1 p.made in
    gathers_map n idents (λ φ. GoalBy sig idents g φ × GoalBy sig idents h φ) (GoalBy sig idents (both g h)) s (gather_goal sig idents h s1) (λ φ f r z. z) (λ φ f r z. z)
    (gathers_then n idents (GoalBy sig idents g) (GoalBy sig idents h) s s1 (gather_goal sig idents h s1) p q
    (λ φ ψ a z. goal_same sig idents h φ ψ (below_idents (length idents) s.next φ ψ m.past a) z) m.past)
gathers_goal n sig idents (either g h) s m =
    let s1 = gather_goal sig idents g s in
    let p = gathers_goal n sig idents g s m in
    let q = gathers_goal n sig idents h s1 p.made in
    gathers_map n idents (λ φ. GoalBy sig idents g φ × GoalBy sig idents h φ) (GoalBy sig idents (either g h)) s (gather_goal sig idents h s1) (λ φ f r z. z) (λ φ f r z. z)
    (gathers_then n idents (GoalBy sig idents g) (GoalBy sig idents h) s s1 (gather_goal sig idents h s1) p q
    (λ φ ψ a z. goal_same sig idents h φ ψ (below_idents (length idents) s.next φ ψ m.past a) z) m.past)
gathers_goal n sig idents (exists x g) s m =
    let s1 = if is_var_at idents x.num then s else system_refused s in
    let p = gathers_exists n idents x s (is_var_at idents x.num) refl m in
    let q = gathers_goal n sig idents g s1 p.made in
    gathers_map n idents (λ φ. VarBy idents x φ × GoalBy sig idents g φ) (GoalBy sig idents (exists x g)) s (gather_goal sig idents g s1) (λ φ f r z. z) (λ φ f r z. z)
    (gathers_then n idents (VarBy idents x) (GoalBy sig idents g) s s1 (gather_goal sig idents g s1) p q
    (λ φ ψ a z. goal_same sig idents g φ ψ (below_idents (length idents) s.next φ ψ m.past a) z) m.past)
gathers_goal n sig idents (new a g) s m =
    let s1 = if is_name_at idents a.num then s else system_refused s in
    let p = gathers_new n idents a s (is_name_at idents a.num) refl m in
    let q = gathers_goal n sig idents g s1 p.made in
    gathers_map n idents (λ φ. NameBy idents a φ × GoalBy sig idents g φ) (GoalBy sig idents (new a g)) s (gather_goal sig idents g s1) (λ φ f r z. z) (λ φ f r z. z)
    (gathers_then n idents (NameBy idents a) (GoalBy sig idents g) s s1 (gather_goal sig idents g s1) p q
    (λ φ ψ b z. goal_same sig idents g φ ψ (below_idents (length idents) s.next φ ψ m.past b) z) m.past)

-- a head's arguments, then a body
pub gathers_clause : (n : ℕ) (sig : NominalSignature) (idents : List IdentKind) (p : ℕ) (ts : List RawTerm) (body : GoalOver RawTerm) (s : EquationSystem) → IsMade n idents s
    → Gathers n idents (λ φ. AtomBy sig idents p ts φ × GoalBy sig idents body φ) s (gather_goal sig idents body (gather_atom sig idents p ts s))
gathers_clause n sig idents p ts body s m =
    let s1 = gather_atom sig idents p ts s in
    let g = gathers_atom n sig idents p ts s m in
    gathers_then n idents (AtomBy sig idents p ts) (GoalBy sig idents body) s s1 (gather_goal sig idents body s1) g (gathers_goal n sig idents body s1 g.made)
    (λ φ ψ a z. goal_same sig idents body φ ψ (below_idents (length idents) s.next φ ψ m.past a) z) m.past
