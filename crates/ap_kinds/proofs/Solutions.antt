-- The types that type an item are those that solve its system.
use Rattle.std.proofs.Common.{◌≡◌, ◌<◌, ◌≤◌, ◌+◌, ◌∙◌, ℕ, zero, suc, List, [], ◌∷◌, true, length, refl, sym, ap, subst, arith, Option, Some, None}
use Rattle.ap_defs.specs.Types.{NominalType, NominalKind, unit, names, name, var}
use Rattle.ap_defs.specs.Types as types
use Rattle.ap_defs.specs.Answers.{kind_at}
use Rattle.ap_types.specs.Equations.{IsNameType, GivesNames, names_bound}
use Rattle.ap_kinds.specs.declared.kinds.IdentKind.{IdentKind}
use Rattle.ap_kinds.specs.declared.kinds.IdentKind.TheVariants as classes
use Rattle.ap_kinds.specs.ItemKinds.{AreOfClasses, IsDeclaredType, AreDeclaredKinds}
use Rattle.ap_kinds.specs.Systems.{EquationSystem, started, name_holes, shape_of_type, is_name_at}
use Rattle.ap_types.proofs.GrowLemmas.{open_length, open_at, open_fits, open_table_formed}
use Rattle.ap_kinds.proofs.Assignments.{Assign, sort_of, filling, IsProper, Agree}
use Rattle.ap_kinds.proofs.IdentLemmas.{kinds_by, kind_by, after, Fits, var_number}
use Rattle.ap_kinds.proofs.Gathers.{Meets, IsMade, Gathers}

-- the types of kinds
abbrev pub type_in : Option NominalKind → NominalType
type_in None = types.unit
type_in (Some (name s)) = types.names s
type_in (Some (var t)) = t

abbrev pub assign_of : List NominalKind → Assign
assign_of ks x = type_in (kind_at ks x)

pub kinds_back : (idents : List IdentKind) (ks : List NominalKind) → AreOfClasses idents ks → kinds_by (assign_of ks) idents ≡ ks
kinds_back [] [] h = refl
kinds_back [] (k ∷ ks) h = absurd h
kinds_back (classes.Name ∷ cs) [] h = absurd h
kinds_back (classes.Var ∷ cs) [] h = absurd h
kinds_back (classes.Name ∷ cs) (name s ∷ ks) h = ap (λ (ls : List NominalKind). name s ∷ ls) (kinds_back cs ks h)
kinds_back (classes.Name ∷ cs) (var t ∷ ks) h = absurd h
kinds_back (classes.Var ∷ cs) (name s ∷ ks) h = absurd h
kinds_back (classes.Var ∷ cs) (var t ∷ ks) h = ap (λ (ls : List NominalKind). var t ∷ ls) (kinds_back cs ks h)

named_back : (n m : ℕ) (idents : List IdentKind) (ks : List NominalKind) → AreOfClasses idents ks → AreDeclaredKinds n m ks → (k : ℕ) → is_name_at idents k ≡ true
    → (s : ℕ) × (assign_of ks k ≡ types.names s) × (s < n)
named_back n m [] ks h d k e = cc
named_back n m (classes.Name ∷ cs) [] h d k e = absurd h
named_back n m (classes.Var ∷ cs) [] h d k e = absurd h
named_back n m (classes.Name ∷ cs) (name s ∷ ks) h d zero e = (s, refl, d.0)
named_back n m (classes.Var ∷ cs) (name s ∷ ks) h d zero e = cc
named_back n m (classes.Name ∷ cs) (var t ∷ ks) h d zero e = absurd h
named_back n m (classes.Var ∷ cs) (var t ∷ ks) h d zero e = cc
named_back n m (classes.Name ∷ cs) (name s ∷ ks) h d (suc k) e = named_back n m cs ks h d.1 k e
named_back n m (classes.Name ∷ cs) (var t ∷ ks) h d (suc k) e = absurd h
named_back n m (classes.Var ∷ cs) (name s ∷ ks) h d (suc k) e = absurd h
named_back n m (classes.Var ∷ cs) (var t ∷ ks) h d (suc k) e = named_back n m cs ks h d.1 k e

pub declared_back : (n m : ℕ) (ks : List NominalKind) → AreDeclaredKinds n m ks → (k : ℕ) → IsDeclaredType n m (assign_of ks k)
declared_back n m [] d k = tt
declared_back n m (name s ∷ ks) d zero = d.0
declared_back n m (var t ∷ ks) d zero = d.0
declared_back n m (j ∷ ks) d (suc k) = declared_back n m ks d.1 k

pub fits_back : (n m : ℕ) (idents : List IdentKind) (ks : List NominalKind) → AreOfClasses idents ks → AreDeclaredKinds n m ks → Fits n idents (assign_of ks)
fits_back n m idents ks h d = record {
  named = named_back n m idents ks h d;
  declared = λ k s c e. subst (IsDeclaredType n m) e (declared_back n m ks d k);
}

-- The first system: the names' holes are name types.
names_started : (n : ℕ) (φ : Assign) (i : ℕ) (idents : List IdentKind) → ((k : ℕ) → is_name_at idents k ≡ true → IsNameType n (shape_of_type (φ (i + k)))) → GivesNames n (filling φ) (name_holes i idents)
names_started n φ i [] h = tt
names_started n φ i (classes.Name ∷ cs) h =
    let e : i + 0 ≡ i = omega arith in (
      subst (λ x. IsNameType n (shape_of_type (φ x))) e (h 0 refl),
      names_started n φ (i + 1) cs (λ k c. let d : i + suc k ≡ (i + 1) + k = omega arith in subst (λ x. IsNameType n (shape_of_type (φ x))) d (h (suc k) c)),
    )
names_started n φ i (classes.Var ∷ cs) h =
    names_started n φ (i + 1) cs (λ k c. let d : i + suc k ≡ (i + 1) + k = omega arith in subst (λ x. IsNameType n (shape_of_type (φ x))) d (h (suc k) c))

started_names : (n : ℕ) (φ : Assign) (i : ℕ) (idents : List IdentKind) → GivesNames n (filling φ) (name_holes i idents) → (k : ℕ) → is_name_at idents k ≡ true → IsNameType n (shape_of_type (φ (i + k)))
started_names n φ i [] g k e = cc
started_names n φ i (classes.Name ∷ cs) g zero e = let d : i ≡ i + 0 = omega arith in subst (λ x. IsNameType n (shape_of_type (φ x))) d g.0
started_names n φ i (classes.Var ∷ cs) g zero e = cc
started_names n φ i (classes.Name ∷ cs) g (suc k) e =
    let d : (i + 1) + k ≡ i + suc k = omega arith in subst (λ x. IsNameType n (shape_of_type (φ x))) d (started_names n φ (i + 1) cs g.1 k e)
started_names n φ i (classes.Var ∷ cs) g (suc k) e =
    let d : (i + 1) + k ≡ i + suc k = omega arith in subst (λ x. IsNameType n (shape_of_type (φ x))) d (started_names n φ (i + 1) cs g k e)

pub meets_started : (n : ℕ) (idents : List IdentKind) (φ : Assign) → Fits n idents φ → Meets n φ (started idents)
meets_started n idents φ f = (
  (open_fits (filling φ) (length idents), tt),
  names_started n φ 0 idents (λ k e.
      let r = f.named k e in
      let z : k ≡ 0 + k = omega arith in
      subst (λ x. IsNameType n (shape_of_type (φ x))) z (subst (λ a. IsNameType n (shape_of_type a)) (sym r.1) r.2)),
)

pub started_named : (n : ℕ) (idents : List IdentKind) (φ : Assign) → Meets n φ (started idents) → (k : ℕ) → is_name_at idents k ≡ true → IsNameType n (shape_of_type (φ k))
started_named n idents φ m k e = let z : 0 + k ≡ k = omega arith in subst (λ x. IsNameType n (shape_of_type (φ x))) z (started_names n φ 0 idents m.1 k e)

bound_started : (i : ℕ) (idents : List IdentKind) (b : ℕ) → i + length idents ≤ b → names_bound (name_holes i idents) ≤ b
bound_started i [] b l = omega arith
bound_started i (classes.Name ∷ cs) b l = let r = bound_started (i + 1) cs b (omega arith) in omega arith
bound_started i (classes.Var ∷ cs) b l = bound_started (i + 1) cs b (omega arith)

pub made_started : (n : ℕ) (idents : List IdentKind) → IsMade n idents (started idents)
made_started n idents = record {
  formed = open_table_formed (length idents);
  held = let e = open_length (length idents) in omega arith;
  bounded = omega arith;
  named = bound_started 0 idents (length idents) (omega arith);
  proper = λ f g. ((λ x. subst (IsProper f) (sym (open_at (length idents) x)) tt), tt);
  past = omega arith;
}

-- kinds that hold are solved
pub solved_by : (n m : ℕ) (idents : List IdentKind) (holds : List NominalKind → Type 0) (s : EquationSystem) → Gathers n idents (λ φ. holds (kinds_by φ idents)) (started idents) s
    → (ks : List NominalKind) → AreOfClasses idents ks → AreDeclaredKinds n m ks → holds ks → (ψ : Assign) × Agree (length idents) (assign_of ks) ψ × Meets n ψ s
solved_by n m idents holds s g ks h d p =
    let f = fits_back n m idents ks h d in
    g.complete (assign_of ks) f (meets_started n idents (assign_of ks) f) (subst holds (sym (kinds_back idents ks h)) p)

classes_by : (idents : List IdentKind) (φ : Assign) → AreOfClasses idents (kinds_by φ idents)
classes_by [] φ = tt
classes_by (classes.Name ∷ cs) φ = classes_by cs (after φ)
classes_by (classes.Var ∷ cs) φ = classes_by cs (after φ)

declared_by : (n m : ℕ) (idents : List IdentKind) (φ : Assign) → ((k : ℕ) → is_name_at idents k ≡ true → (s : ℕ) × (φ k ≡ types.names s) × (s < n))
    → ((k : ℕ) → k < length idents → IsDeclaredType n m (φ k)) → AreDeclaredKinds n m (kinds_by φ idents)
declared_by n m [] φ f d = tt
declared_by n m (classes.Name ∷ cs) φ f d =
    let r = f 0 refl in
    (subst (λ s. s < n) (sym (ap sort_of r.1)) r.2, declared_by n m cs (after φ) (λ k e. f (suc k) e) (λ k l. d (suc k) (omega arith)))
declared_by n m (classes.Var ∷ cs) φ f d = (d 0 (omega arith), declared_by n m cs (after φ) (λ k e. f (suc k) e) (λ k l. d (suc k) (omega arith)))

named_types : (n : ℕ) (a : NominalType) → IsNameType n (shape_of_type a) → (s : ℕ) × (a ≡ types.names s) × (s < n)
named_types n (types.names s) h = (s, refl, h)
named_types n _ h = absurd h

-- what solves the system, with declared types for the identifiers, gives kinds that hold
pub solution_holds : (n m : ℕ) (idents : List IdentKind) (holds : List NominalKind → Type 0) (s : EquationSystem) → Gathers n idents (λ φ. holds (kinds_by φ idents)) (started idents) s
    → (φ : Assign) → Meets n φ s → ((k : ℕ) → k < length idents → IsDeclaredType n m (φ k))
    → AreOfClasses idents (kinds_by φ idents) × AreDeclaredKinds n m (kinds_by φ idents) × holds (kinds_by φ idents)
solution_holds n m idents holds s g φ r d =
    let first = g.grows.back φ r in
    let named : (k : ℕ) → is_name_at idents k ≡ true → (s : ℕ) × (φ k ≡ types.names s) × (s < n) = λ k e. named_types n (φ k) (started_named n idents φ first k e) in
    let fits : Fits n idents φ = record { named = named; declared = λ k s c e. subst (IsDeclaredType n m) e (d k (var_number idents k c)) } in
    (classes_by idents φ, declared_by n m idents φ named d, g.sound φ fits r)

-- Kinds that are the same come from types that are.
pub types_same : (n : ℕ) (idents : List IdentKind) (φ ψ : Assign) → ((k : ℕ) → is_name_at idents k ≡ true → (s : ℕ) × (φ k ≡ types.names s))
    → ((k : ℕ) → is_name_at idents k ≡ true → (s : ℕ) × (ψ k ≡ types.names s)) → kinds_by φ idents ≡ kinds_by ψ idents → (x : ℕ) → x < length idents → φ x ≡ ψ x
types_same n [] φ ψ f g e x l = absurd (omega arith)
types_same n (classes.Name ∷ cs) φ ψ f g e zero l =
    let p = f 0 refl in
    let q = g 0 refl in
    let d : ◌≡◌ {A = List NominalKind} (name (sort_of (φ 0)) ∷ kinds_by (after φ) cs) (name (sort_of (ψ 0)) ∷ kinds_by (after ψ) cs) = e in
    let same : sort_of (φ 0) ≡ sort_of (ψ 0) = cc in
    p.1 ∙ ap types.names (sym (ap sort_of p.1) ∙ same ∙ ap sort_of q.1) ∙ sym q.1
types_same n (classes.Var ∷ cs) φ ψ f g e zero l =
    let d : ◌≡◌ {A = List NominalKind} (var (φ 0) ∷ kinds_by (after φ) cs) (var (ψ 0) ∷ kinds_by (after ψ) cs) = e in
    cc
types_same n (c ∷ cs) φ ψ f g e (suc x) l =
    let d : ◌≡◌ {A = List NominalKind} (kind_by c (φ 0) ∷ kinds_by (after φ) cs) (kind_by c (ψ 0) ∷ kinds_by (after ψ) cs) = e in
    let rest : kinds_by (after φ) cs ≡ kinds_by (after ψ) cs = cc in
    types_same n cs (after φ) (after ψ) (λ k h. f (suc k) h) (λ k h. g (suc k) h) rest x (omega arith)

pub started_sorts : (n : ℕ) (idents : List IdentKind) (φ : Assign) → Meets n φ (started idents) → (k : ℕ) → is_name_at idents k ≡ true → (s : ℕ) × (φ k ≡ types.names s)
started_sorts n idents φ m k e = let r = named_types n (φ k) (started_named n idents φ m k e) in (r.0, r.1)
