-- What is found of a system is what there is of kinds that hold.
use Rattle.std.proofs.Common.{◌≡◌, ◌<◌, ◌+◌, ◌∙◌, inl, inr, ℕ, zero, suc, List, [], ◌∷◌, true, false, length, refl, sym, ap, subst, arith, Result, Ok, Err}
use Rattle.std.specs.Prelude.{IfOk, IfErr}
use Rattle.ap_defs.specs.Types.{NominalType, NominalKind, NominalSignature, TypeShape, hole, unit, names, list}
use Rattle.ap_defs.specs.Types as types
use Rattle.ap_types.specs.Equations.{filled}
use Rattle.ap_types.specs.Solving.{shape_at}
use Rattle.ap_types.specs.Growing.{IsTableUnsolvable}
use Rattle.ap_kinds.specs.declared.kinds.IdentKind.{IdentKind}
use Rattle.ap_kinds.specs.declared.kinds.IdentKind.TheVariants as classes
use Rattle.ap_kinds.specs.declared.errors.KindsError.{KindsError}
use Rattle.ap_kinds.specs.declared.errors.KindsError.TheVariants as errors
use Rattle.ap_kinds.specs.ItemKinds.{IsDeclaredType, AreKinds, IsOnly, IsInferred, IsRefused}
use Rattle.ap_kinds.specs.Systems.{EquationSystem, started, shape_of_type}
use Rattle.ap_kinds.specs.Reading.{is_declared, is_closed, read_type, read_kind, read_kinds, IsSystemSolved, SomeUndeclared, AllDeclared, SomeOpen, name_count, data_count, AreKindsRead, IsFound, IsNotFound}
use Rattle.ap_kinds.proofs.Assignments.{Assign, filling, closed, closes, opened_injective}
use Rattle.ap_kinds.proofs.IdentLemmas.{kinds_by, kind_by, kinds_same}
use Rattle.ap_kinds.proofs.Gathers.{Meets, Gathers}
use Rattle.ap_kinds.proofs.Solutions.{assign_of, kinds_back, declared_back, solved_by, solution_holds, types_same, started_sorts}
use Rattle.ap_kinds.proofs.Readings.{instance_at, past_end, below_or_past, result_by, IsChoice, proper_by, result_meets, instance_declared, closed_declared, closed_read, read_sort, same_closed}

-- the walk has the kinds that hold as its solutions
abbrev pub Walks : NominalSignature → List IdentKind → (List NominalKind → Type 0) → EquationSystem → Type 0
Walks sig idents holds s = Gathers (name_count sig) idents (λ φ. holds (kinds_by φ idents)) (started idents) s

pub unsolvable_clash : (sig : NominalSignature) (idents : List IdentKind) (holds : List NominalKind → Type 0) (s : EquationSystem) → Walks sig idents holds s
    → IsTableUnsolvable s.table s.equations s.names (name_count sig) → (ks : List NominalKind) → AreKinds sig idents holds ks → ⊥
unsolvable_clash sig idents holds s g u ks k =
    let r = solved_by (name_count sig) (data_count sig) idents holds s g ks k.0 k.1 k.2 in
    u (filling r.0) r.2

undeclared_clash : (sig : NominalSignature) (idents : List IdentKind) (holds : List NominalKind → Type 0) (s : EquationSystem) → Walks sig idents holds s
    → (ts : List TypeShape) → IsSystemSolved (name_count sig) s ts → SomeUndeclared (name_count sig) (data_count sig) (length idents) ts → (ks : List NominalKind) → AreKinds sig idents holds ks → ⊥
undeclared_clash sig idents holds s g ts h u ks k =
    let n = name_count sig in
    let m = data_count sig in
    let r = solved_by n m idents holds s g ks k.0 k.1 k.2 in
    let i = ((h.most_general (filling r.0)).0 r.2).0 in
    let declared : IsDeclaredType n m (r.0 u.0) = subst (IsDeclaredType n m) (r.1 u.0 u.1) (declared_back n m ks k.1 u.0) in
    elim (below_or_past u.0 (length ts)) [
      | inl l ↦ (let e = instance_declared n m i.0 (shape_at ts u.0) (r.0 u.0) (instance_at i.0 (filling r.0) ts u.0 i.1 l) declared in let d = u.2 in cc)
      | inr l ↦ (let e : is_declared n m (shape_at ts u.0) ≡ true = ap (is_declared n m) (past_end ts u.0 (hole u.0) l) in let d = u.2 in cc)
    ]

-- Two choices for the holes that are left.
first_choice : ℕ → NominalType
first_choice zero = types.unit
first_choice (suc zero) = types.unit
first_choice (suc (suc n)) = types.names 0

second_choice : ℕ → NominalType
second_choice zero = types.list types.unit
second_choice (suc zero) = types.list types.unit
second_choice (suc (suc n)) = types.names 1

first_chosen : (n : ℕ) → IsChoice n (λ y. first_choice n)
unfolding first_choice
first_chosen zero l y = absurd (omega arith)
first_chosen (suc zero) l y = absurd (omega arith)
first_chosen (suc (suc n)) l y = (0, refl, omega arith)

second_chosen : (n : ℕ) → IsChoice n (λ y. second_choice n)
unfolding second_choice
second_chosen zero l y = absurd (omega arith)
second_chosen (suc zero) l y = absurd (omega arith)
second_chosen (suc (suc n)) l y = (1, refl, omega arith)

first_declared : (n m : ℕ) → IsDeclaredType n m (first_choice n)
unfolding first_choice
first_declared zero m = tt
first_declared (suc zero) m = tt
first_declared (suc (suc n)) m = omega arith

second_declared : (n m : ℕ) → IsDeclaredType n m (second_choice n)
unfolding second_choice
second_declared zero m = tt
second_declared (suc zero) m = tt
second_declared (suc (suc n)) m = omega arith

choices_differ : (n : ℕ) → shape_of_type (first_choice n) ≡ shape_of_type (second_choice n) → ⊥
unfolding first_choice second_choice
choices_differ zero e = let d : ◌≡◌ {A = TypeShape} unit (list unit) = e in cc
choices_differ (suc zero) e = let d : ◌≡◌ {A = TypeShape} unit (list unit) = e in cc
choices_differ (suc (suc n)) e = let d : ◌≡◌ {A = TypeShape} (names 0) (names 1) = e in cc

-- the kinds by a choice hold
choice_holds : (sig : NominalSignature) (idents : List IdentKind) (holds : List NominalKind → Type 0) (s : EquationSystem) → Walks sig idents holds s
    → (ts : List TypeShape) → IsSystemSolved (name_count sig) s ts → AllDeclared (name_count sig) (data_count sig) (length idents) ts
    → (γ : Assign) → IsChoice (name_count sig) γ → ((y : ℕ) → IsDeclaredType (name_count sig) (data_count sig) (γ y))
    → AreKinds sig idents holds (kinds_by (result_by γ ts) idents)
choice_holds sig idents holds s g ts h d γ c k =
    let n = name_count sig in
    let m = data_count sig in
    let proper = proper_by n s ts h g.made.proper γ c in
    solution_holds n m idents holds s g (result_by γ ts) (result_meets n s ts h g.made.proper γ c)
    (λ x l. closed_declared n m γ (shape_at ts x) (proper x) k (d x l))

open_ambiguous : (sig : NominalSignature) (idents : List IdentKind) (holds : List NominalKind → Type 0) (s : EquationSystem) → Walks sig idents holds s
    → (ts : List TypeShape) → IsSystemSolved (name_count sig) s ts → AllDeclared (name_count sig) (data_count sig) (length idents) ts → SomeOpen (length idents) ts
    → (ks : List NominalKind) × (ls : List NominalKind) × AreKinds sig idents holds ks × AreKinds sig idents holds ls × (ks ≡ ls → ⊥)
open_ambiguous sig idents holds s g ts h d o =
    let n = name_count sig in
    let m = data_count sig in
    let γ : Assign = λ y. first_choice n in
    let δ : Assign = λ y. second_choice n in
    let φ = result_by γ ts in
    let ψ = result_by δ ts in
    let t = shape_at ts o.0 in
    let p = proper_by n s ts h g.made.proper γ (first_chosen n) in
    let q = proper_by n s ts h g.made.proper δ (second_chosen n) in
    let sorts = λ (χ : Assign) (r : Meets n χ s). started_sorts n idents χ (g.grows.back χ r) in (
      kinds_by φ idents,
      kinds_by ψ idents,
      choice_holds sig idents holds s g ts h d γ (first_chosen n) (λ y. first_declared n m),
      choice_holds sig idents holds s g ts h d δ (second_chosen n) (λ y. second_declared n m),
      (λ e.
          let same = types_same n idents φ ψ (sorts φ (result_meets n s ts h g.made.proper γ (first_chosen n))) (sorts ψ (result_meets n s ts h g.made.proper δ (second_chosen n))) e o.0 o.1 in
          let both : filled (filling γ) t ≡ filled (filling δ) t = closes γ t (p o.0) ∙ ap shape_of_type same ∙ sym (closes δ t (q o.0)) in
          let c : is_closed t ≡ true = same_closed (shape_of_type (first_choice n)) (shape_of_type (second_choice n)) t (choices_differ n) (p o.0) both in
          let f = o.2 in
          cc),
    )

-- Kinds that are read.
read_assign : List TypeShape → Assign
read_assign ts x = read_type (shape_at ts x)

read_one : (c : IdentKind) (t : TypeShape) → read_kind c t ≡ kind_by c (read_type t)
read_one classes.Name t = ap types.name (sym (read_sort t))
read_one classes.Var t = refl

read_as : (ts : List TypeShape) (i : ℕ) (idents : List IdentKind) → read_kinds ts i idents ≡ kinds_by (λ x. read_type (shape_at ts (i + x))) idents
read_as ts i [] = refl
read_as ts i (c ∷ cs) =
    let z : i ≡ i + 0 = omega arith in
    let first : read_kind c (shape_at ts i) ≡ kind_by c (read_type (shape_at ts (i + 0))) = read_one c (shape_at ts i) ∙ ap (λ j. kind_by c (read_type (shape_at ts j))) z in
    let rest : read_kinds ts (i + 1) cs ≡ kinds_by (λ x. read_type (shape_at ts (i + suc x))) cs =
    read_as ts (i + 1) cs
    ∙ kinds_same cs (λ x. read_type (shape_at ts ((i + 1) + x))) (λ x. read_type (shape_at ts (i + suc x)))
    (λ x l. let e : (i + 1) + x ≡ i + suc x = omega arith in ap (λ j. read_type (shape_at ts j)) e) in
    cc

read_is : (ts : List TypeShape) (idents : List IdentKind) (φ : Assign) → ((x : ℕ) → x < length idents → φ x ≡ read_type (shape_at ts x)) → kinds_by φ idents ≡ read_kinds ts 0 idents
read_is ts idents φ h =
    kinds_same idents φ (λ x. read_type (shape_at ts (0 + x))) (λ x l. let e : x ≡ 0 + x = omega arith in h x l ∙ ap (λ j. read_type (shape_at ts j)) e) ∙ sym (read_as ts 0 idents)

pub read_only : (sig : NominalSignature) (idents : List IdentKind) (holds : List NominalKind → Type 0) (s : EquationSystem) → Walks sig idents holds s
    → (ts : List TypeShape) → IsSystemSolved (name_count sig) s ts → (ks : List NominalKind) → AreKindsRead sig idents ts ks → IsOnly (AreKinds sig idents holds) ks
read_only sig idents holds s g ts h ks r =
    let n = name_count sig in
    let m = data_count sig in
    let γ : Assign = λ y. first_choice n in
    let proper = proper_by n s ts h g.made.proper γ (first_chosen n) in
    let here : kinds_by (result_by γ ts) idents ≡ ks =
    read_is ts idents (result_by γ ts)
    (λ x l. opened_injective (closed γ (shape_at ts x)) (read_type (shape_at ts x)) (sym (closes γ (shape_at ts x) (proper x)) ∙ closed_read (filling γ) (shape_at ts x) (r.closed x l)))
    ∙ sym r.read in (
      subst (AreKinds sig idents holds) here (choice_holds sig idents holds s g ts h r.declared γ (first_chosen n) (λ y. first_declared n m)),
      (λ ls k.
          let w = solved_by n m idents holds s g ls k.0 k.1 k.2 in
          let i = ((h.most_general (filling w.0)).0 w.2).0 in
          sym (kinds_back idents ls k.0)
          ∙ read_is ts idents (assign_of ls)
          (λ x l. w.1 x l ∙ opened_injective (w.0 x) (read_type (shape_at ts x))
          (elim (below_or_past x (length ts)) [
            | inl b ↦ instance_at i.0 (filling w.0) ts x i.1 b ∙ closed_read i.0 (shape_at ts x) (r.closed x l)
            | inr b ↦ (let c : is_closed (hole x) ≡ true = ap is_closed (sym (past_end ts x (hole x) b)) ∙ r.closed x l in absurd (open_hole c))
          ]))
          ∙ sym r.read),
    )
  where
    open_hole : false ≡ true → ⊥
    open_hole e = cc

-- Both answers.
pub found_inferred : (sig : NominalSignature) (idents : List IdentKind) (holds : List NominalKind → Type 0) (s : EquationSystem) → Walks sig idents holds s
    → (ks : List NominalKind) → IsFound sig idents s ks → IsInferred sig.constructors (AreKinds sig idents holds) ks
found_inferred sig idents holds s g ks f = (read_only sig idents holds s g f.0 f.1 ks f.2, f.3)

pub not_found_refused : (e : KindsError) (sig : NominalSignature) (idents : List IdentKind) (holds : List NominalKind → Type 0) (s : EquationSystem) → Walks sig idents holds s
    → IsNotFound e sig idents s → IsRefused e sig.constructors (AreKinds sig idents holds)
not_found_refused errors.Clash sig idents holds s g f =
    elim f [
      | inl u ↦ unsolvable_clash sig idents holds s g u
      | inr u ↦ undeclared_clash sig idents holds s g u.0 u.1 u.2
    ]
not_found_refused errors.Ambiguous sig idents holds s g f = elim f [ inl u ↦ absurd u | inr u ↦ open_ambiguous sig idents holds s g u.0 u.1 u.2.0 u.2.1 ]
not_found_refused errors.Empty sig idents holds s g f = elim f [ inl u ↦ absurd u | inr u ↦ (u.2.0, read_only sig idents holds s g u.0 u.1 u.2.0 u.2.1, u.2.2) ]
not_found_refused errors.Memory sig idents holds s g f = tt

pub ok_inferred : {A : Type 0} (r : Result A KindsError) (view : A → List NominalKind) (sig : NominalSignature) (idents : List IdentKind) (holds : List NominalKind → Type 0) (s : EquationSystem)
    → Walks sig idents holds s → IfOk r (λ v. IsFound sig idents s (view v)) → IfOk r (λ v. IsInferred sig.constructors (AreKinds sig idents holds) (view v))
ok_inferred (Ok v) view sig idents holds s g h = found_inferred sig idents holds s g (view v) h
ok_inferred (Err e) view sig idents holds s g h = tt

pub err_refused : {A : Type 0} (r : Result A KindsError) (sig : NominalSignature) (idents : List IdentKind) (holds : List NominalKind → Type 0) (s : EquationSystem)
    → Walks sig idents holds s → IfErr r (λ e. IsNotFound e sig idents s) → IfErr r (λ e. IsRefused e sig.constructors (AreKinds sig idents holds))
err_refused (Ok v) sig idents holds s g h = tt
err_refused (Err e) sig idents holds s g h = not_found_refused e sig idents holds s g h
