-- The walk over terms with types, one term at a time.
use Rattle.std.proofs.Common.{◌≡◌, ◌<◌, ◌≤◌, ◌+◌, ℕ, zero, suc, List, [], ◌∷◌, map, drop, length, refl, arith, get_or}
use Rattle.ap_defs.specs.declared.terms.Raw.{Raw}
use Rattle.ap_defs.specs.declared.terms.Ty.{Ty}
use Rattle.ap_defs.specs.RawTerms.{raw_of}
use Rattle.ap_defs.specs.Types.{NominalConstructor, type_of}
use Rattle.ap_types.proofs.LoadLemmas.{next_at}
use Rattle.ap_kinds.specs.declared.kinds.IdentKind.{IdentKind}
use Rattle.ap_kinds.specs.Systems.{EquationSystem, system_refused}
use Rattle.ap_kinds.specs.Gathering.{typed, gather_term, gather_terms}

drop_past : {A : Type 0} (xs : List A) (i : ℕ) → length xs ≤ i → drop i xs ≡ []
drop_past [] zero l = refl
drop_past [] (suc i) l = refl
drop_past (x ∷ xs) zero l = absurd (omega arith)
drop_past (x ∷ xs) (suc i) l = drop_past xs i (omega arith)

drop_within : {A : Type 0} (xs : List A) (i : ℕ) → i < length xs → (x : A) × (drop i xs ≡ x ∷ drop (suc i) xs)
drop_within [] i l = absurd (omega arith)
drop_within (x ∷ xs) zero l = (x, refl)
drop_within (x ∷ xs) (suc i) l = drop_within xs i (omega arith)

pub terms_next : (cs : List NominalConstructor) (idents : List IdentKind) (ts : List Raw) (as' : List Ty) (i : ℕ) (t : Raw) (a : Ty) (s : EquationSystem)
    → i < length ts → t ≡ get_or ts i t → i < length as' → a ≡ get_or as' i a
    → gather_terms cs idents (map raw_of (drop (i + 1) ts)) (map type_of (drop (i + 1) as')) (gather_term cs idents (raw_of t) (typed (type_of a)) s)
    ≡ gather_terms cs idents (map raw_of (drop i ts)) (map type_of (drop i as')) s
terms_next cs idents ts as' i t a s l e m f = rw (next_at ts i t l e, next_at as' i a m f) refl

pub terms_short : (cs : List NominalConstructor) (idents : List IdentKind) (ts : List Raw) (as' : List Ty) (i : ℕ) (s : EquationSystem)
    → i < length ts → length as' ≤ i → gather_terms cs idents (map raw_of (drop i ts)) (map type_of (drop i as')) s ≡ system_refused s
terms_short cs idents ts as' i s l m = let d = drop_within ts i l in rw (d.1, drop_past as' i m) refl

pub terms_long : (cs : List NominalConstructor) (idents : List IdentKind) (ts : List Raw) (as' : List Ty) (i : ℕ) (s : EquationSystem)
    → length ts ≤ i → i < length as' → gather_terms cs idents (map raw_of (drop i ts)) (map type_of (drop i as')) s ≡ system_refused s
terms_long cs idents ts as' i s l m = let d = drop_within as' i m in rw (drop_past ts i l, d.1) refl

pub terms_done : (cs : List NominalConstructor) (idents : List IdentKind) (ts : List Raw) (as' : List Ty) (i : ℕ) (s : EquationSystem)
    → length ts ≤ i → length as' ≤ i → gather_terms cs idents (map raw_of (drop i ts)) (map type_of (drop i as')) s ≡ s
terms_done cs idents ts as' i s l m = rw (drop_past ts i l, drop_past as' i m) refl
