-- The kinds of identifiers by types for their holes.
use Rattle.std.proofs.Common.{◌≡◌, ◌<◌, ◌∙◌, ℕ, zero, suc, List, [], ◌∷◌, true, length, refl, sym, ap, subst, arith, Some}
use Rattle.ap_defs.specs.declared.terms.Name.{Name}
use Rattle.ap_defs.specs.declared.terms.Var.{Var}
use Rattle.ap_defs.specs.declared.terms.Id.{Id}
use Rattle.ap_defs.specs.declared.terms.Id.TheVariants as ids
use Rattle.ap_defs.specs.Types.{NominalType, NominalKind, name, var}
use Rattle.ap_defs.specs.Types as types
use Rattle.ap_defs.specs.Answers.{kind_at}
use Rattle.ap_program.specs.RawTyping.{IsNameOf, IsVarOf, IsOfSort}
use Rattle.ap_kinds.specs.declared.kinds.IdentKind.{IdentKind}
use Rattle.ap_kinds.specs.declared.kinds.IdentKind.TheVariants as classes
use Rattle.ap_kinds.specs.Sorts.{sort_in, name_with_sort, id_with_sort}
use Rattle.ap_kinds.specs.Systems.{is_name_at, is_var_at}
use Rattle.ap_kinds.specs.Gathering.{number_of_id, is_of_class}
use Rattle.ap_kinds.proofs.Assignments.{Assign, sort_of, Agree}

abbrev pub kind_by : IdentKind → NominalType → NominalKind
kind_by classes.Name a = name (sort_of a)
kind_by classes.Var a = var a

abbrev pub after : Assign → Assign
after φ x = φ (suc x)

-- the kinds of identifiers whose holes become types
abbrev pub kinds_by : Assign → List IdentKind → List NominalKind
kinds_by φ [] = []
kinds_by φ (c ∷ cs) = kind_by c (φ 0) ∷ kinds_by (after φ) cs

-- A name's hole becomes a declared name type, and a variable's may become no other name type.
pub record Fits (n : ℕ) (idents : List IdentKind) (φ : Assign) : Type 0 where
  pub named : (k : ℕ) → is_name_at idents k ≡ true → (s : ℕ) × (φ k ≡ types.names s) × (s < n)
  pub declared : (k s : ℕ) → is_var_at idents k ≡ true → φ k ≡ types.names s → s < n

pub kinds_same : (idents : List IdentKind) (φ ψ : Assign) → Agree (length idents) φ ψ → kinds_by φ idents ≡ kinds_by ψ idents
kinds_same [] φ ψ h = refl
kinds_same (c ∷ cs) φ ψ h =
    let a = ap (kind_by c) (h 0 (omega arith)) in
    let b = kinds_same cs (after φ) (after ψ) (λ x l. h (suc x) (omega arith)) in
    cc

name_here : (idents : List IdentKind) (k : ℕ) → is_name_at idents k ≡ true → k < length idents
name_here [] k h = cc
name_here (c ∷ cs) zero h = omega arith
name_here (c ∷ cs) (suc k) h = let l = name_here cs k h in omega arith

var_here : (idents : List IdentKind) (k : ℕ) → is_var_at idents k ≡ true → k < length idents
var_here [] k h = cc
var_here (c ∷ cs) zero h = omega arith
var_here (c ∷ cs) (suc k) h = let l = var_here cs k h in omega arith

pub class_here : (idents : List IdentKind) (i : Id) → is_of_class idents i ≡ true → number_of_id i < length idents
class_here idents (ids.Name a) h = name_here idents a.num h
class_here idents (ids.Var x) h = var_here idents x.num h

pub name_number : (idents : List IdentKind) (k : ℕ) → is_name_at idents k ≡ true → k < length idents
name_number = name_here

pub var_number : (idents : List IdentKind) (k : ℕ) → is_var_at idents k ≡ true → k < length idents
var_number = var_here

pub fits_same : (n : ℕ) (idents : List IdentKind) (φ ψ : Assign) → Agree (length idents) φ ψ → Fits n idents φ → Fits n idents ψ
fits_same n idents φ ψ h f = record {
  named = λ k c. let r = f.named k c in (r.0, sym (h k (name_here idents k c)) ∙ r.1, r.2);
  declared = λ k s c e. f.declared k s c (h k (var_here idents k c) ∙ e);
}

name_kind : (idents : List IdentKind) (φ : Assign) (k : ℕ) → is_name_at idents k ≡ true → kind_at (kinds_by φ idents) k ≡ Some (name (sort_of (φ k)))
name_kind [] φ k h = cc
name_kind (classes.Name ∷ cs) φ zero h = refl
name_kind (classes.Var ∷ cs) φ zero h = cc
name_kind (c ∷ cs) φ (suc k) h = name_kind cs (after φ) k h

var_kind : (idents : List IdentKind) (φ : Assign) (k : ℕ) → is_var_at idents k ≡ true → kind_at (kinds_by φ idents) k ≡ Some (var (φ k))
var_kind [] φ k h = cc
var_kind (classes.Name ∷ cs) φ zero h = cc
var_kind (classes.Var ∷ cs) φ zero h = refl
var_kind (c ∷ cs) φ (suc k) h = var_kind cs (after φ) k h

kind_name : (idents : List IdentKind) (φ : Assign) (k s : ℕ) → kind_at (kinds_by φ idents) k ≡ Some (name s) → (is_name_at idents k ≡ true) × (sort_of (φ k) ≡ s)
kind_name [] φ k s h = cc
kind_name (classes.Name ∷ cs) φ zero s h = (refl, cc)
kind_name (classes.Var ∷ cs) φ zero s h = cc
kind_name (c ∷ cs) φ (suc k) s h = kind_name cs (after φ) k s h

kind_var : (idents : List IdentKind) (φ : Assign) (k : ℕ) (a : NominalType) → kind_at (kinds_by φ idents) k ≡ Some (var a) → (is_var_at idents k ≡ true) × (φ k ≡ a)
kind_var [] φ k a h = cc
kind_var (classes.Name ∷ cs) φ zero a h = cc
kind_var (classes.Var ∷ cs) φ zero a h = (refl, cc)
kind_var (c ∷ cs) φ (suc k) a h = kind_var cs (after φ) k a h

-- Names and variables by their kinds.
pub name_of_sort : (n : ℕ) (idents : List IdentKind) (φ : Assign) (a : Name) (s : ℕ) → is_name_at idents a.num ≡ true → φ a.num ≡ types.names s
    → IsNameOf (kinds_by φ idents) (name_with_sort (kinds_by φ idents) a) s
name_of_sort n idents φ a s h e =
    let k : kind_at (kinds_by φ idents) a.num ≡ Some (name s) = name_kind idents φ a.num h ∙ ap (λ b. Some (name (sort_of b))) e in
    (ap (λ o. sort_in o a.sort) k, k)

pub sort_of_name : (n : ℕ) (idents : List IdentKind) (φ : Assign) (a : Name) (s : ℕ) → Fits n idents φ → IsNameOf (kinds_by φ idents) (name_with_sort (kinds_by φ idents) a) s
    → (is_name_at idents a.num ≡ true) × (φ a.num ≡ types.names s) × (s < n)
sort_of_name n idents φ a s f h =
    let k = kind_name idents φ a.num s h.1 in
    let r = f.named a.num k.0 in
    let e : r.0 ≡ s = sym (ap sort_of r.1) ∙ k.1 in
    (k.0, r.1 ∙ ap types.names e, subst (λ m. m < n) e r.2)

-- the sort of a new name is that of its kind
pub own_sort : (n : ℕ) (idents : List IdentKind) (φ : Assign) (a : Name) → Fits n idents φ → is_name_at idents a.num ≡ true
    → IsNameOf (kinds_by φ idents) (name_with_sort (kinds_by φ idents) a) (name_with_sort (kinds_by φ idents) a).sort
own_sort n idents φ a f h =
    let r = f.named a.num h in
    let k = name_of_sort n idents φ a r.0 h r.1 in
    (refl, k.1 ∙ ap (λ s. Some (name s)) (sym k.0))

pub own_name : (n : ℕ) (idents : List IdentKind) (φ : Assign) (a : Name) (s : ℕ) → IsNameOf (kinds_by φ idents) (name_with_sort (kinds_by φ idents) a) s → is_name_at idents a.num ≡ true
own_name n idents φ a s h = (kind_name idents φ a.num s h.1).0

pub var_of_type : (idents : List IdentKind) (φ : Assign) (x : Var) → is_var_at idents x.num ≡ true → IsVarOf (kinds_by φ idents) x (φ x.num)
var_of_type idents φ x h = var_kind idents φ x.num h

pub type_of_var : (idents : List IdentKind) (φ : Assign) (x : Var) (a : NominalType) → IsVarOf (kinds_by φ idents) x a → (is_var_at idents x.num ≡ true) × (φ x.num ≡ a)
type_of_var idents φ x a h = kind_var idents φ x.num a h

-- a word in a name's place is of its class, and its hole becomes the name type
pub place_sort : (n : ℕ) (idents : List IdentKind) (φ : Assign) (i : Id) (s : ℕ) → Fits n idents φ → IsOfSort (kinds_by φ idents) (id_with_sort (kinds_by φ idents) i) s
    → (is_of_class idents i ≡ true) × (φ (number_of_id i) ≡ types.names s) × (s < n)
place_sort n idents φ (ids.Name a) s f h = sort_of_name n idents φ a s f h
place_sort n idents φ (ids.Var x) s f h =
    let r = kind_var idents φ x.num (types.names s) h in
    (r.0, r.1, f.declared x.num s r.0 r.1)

pub sort_place : (n : ℕ) (idents : List IdentKind) (φ : Assign) (i : Id) (s : ℕ) → is_of_class idents i ≡ true → φ (number_of_id i) ≡ types.names s
    → IsOfSort (kinds_by φ idents) (id_with_sort (kinds_by φ idents) i) s
sort_place n idents φ (ids.Name a) s h e = name_of_sort n idents φ a s h e
sort_place n idents φ (ids.Var x) s h e = var_kind idents φ x.num h ∙ ap (λ b. Some (var b)) e
