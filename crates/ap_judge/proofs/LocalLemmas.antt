-- The free names and the free variables of the identifiers that are left.
use Rattle.std.proofs.Common.{◌≡◌, ◌<◌, ◌≤◌, ◌+◌, ℕ, zero, suc, Bool, true, false, ◌&&◌, List, [], ◌∷◌, map, length, get_or, drop, nat_eq, refl, sym, ap, ap₂, ◌∙◌, add-one, arith}
use Rattle.ap_program.specs.FreeLocals.{free_sort, is_free_var}
use Rattle.std.proofs.Math.Seq.{drop-cons}
use Rattle.std.proofs.lemmas.Bool.Decides.{nat_tests}
use Rattle.std.specs.Prelude.{◌==◌, if◌then◌else◌, Some, None}
use Rattle.ap_defs.specs.declared.goals.Local.{Local}
use Rattle.ap_defs.specs.declared.terms.Name.{Name}
use Rattle.ap_defs.specs.declared.terms.Var.{Var}
use Rattle.ap_defs.specs.Answers.{kind_at}
use Rattle.ap_defs.specs.Freshness.{var_eq}
use Rattle.ap_defs.specs.GroundProofs.{name_for}
use Rattle.ap_defs.specs.Permutations.{name_eq}
use Rattle.ap_defs.specs.Renaming.{local_names, local_vars, name_unless, var_unless}
use Rattle.ap_defs.specs.Resolution.{kinds_of}
use Rattle.ap_defs.specs.Terms.{NominalTerm}
use Rattle.ap_defs.specs.Types as types
use Rattle.ap_defs.specs.Types.{NominalConstructor, NominalKind, NominalType, local_of, locals_of}
use Rattle.ap_defs.specs.Typing.{VarTypes, one}
use Rattle.ap_checks.specs.TypeTests.{has_kind, have_kinds, have_sorts, is_typed}
use Rattle.ap_program.specs.FreeLocals as free
use Rattle.ap_judge.specs.FreeLocals as free_types
use Rattle.ap_judge.specs.FreeLocals.{free_type}

drop-past : {A : Type 0} (xs : List A) (n : ℕ) → length xs ≤ n → drop n xs ≡ []
drop-past [] zero h = refl
drop-past [] (suc n) h = refl
drop-past (x ∷ xs) zero h = absurd (omega arith)
drop-past (x ∷ xs) (suc n) h = drop-past xs n (omega arith)

pub locals_left : (ls : List Local) (i : ℕ) (d : Local) → i < length ls → locals_of (drop i ls) ≡ local_of (get_or ls i d) ∷ locals_of (drop (i + 1) ls)
locals_left ls i d h = ap locals_of (drop-cons ls i d h ∙ ap (λ n. get_or ls i d ∷ drop n ls) (sym (add-one i)))

no_name : (b : Bool) (k : NominalKind) (n : ℕ) (as' : List Name) → free.sort_unless b k ≡ None → name_unless b k n as' ≡ as'
no_name true k n as' h = refl
no_name false (types.var t) n as' h = refl
no_name false (types.name s) n as' h = cc

a_name : (b : Bool) (k : NominalKind) (n s : ℕ) (as' : List Name) → free.sort_unless b k ≡ Some s → name_unless b k n as' ≡ record { sort = s; num = n } ∷ as'
a_name true k n s as' h = cc
a_name false (types.var t) n s as' h = cc
a_name false (types.name r) n s as' h = let same : r ≡ s = cc in ap (λ (t : ℕ). record { sort = t; num = n } ∷ as') same

no_var : (b : Bool) (k : NominalKind) (n : ℕ) (xs : List Var) → free.var_when b k ≡ false → var_unless b k n xs ≡ xs
no_var true k n xs h = refl
no_var false (types.name s) n xs h = refl
no_var false (types.var t) n xs h = cc

a_var : (b : Bool) (k : NominalKind) (n : ℕ) (xs : List Var) → free.var_when b k ≡ true → var_unless b k n xs ≡ record { num = n } ∷ xs
a_var true k n xs h = cc
a_var false (types.name s) n xs h = cc
a_var false (types.var t) n xs h = refl

module _ (ls : List Local) (i : ℕ) (d : Local) (h : i < length ls) where
  pub names_skip : free_sort (local_of (get_or ls i d)) ≡ None → local_names i (locals_of (drop i ls)) ≡ local_names (i + 1) (locals_of (drop (i + 1) ls))
  names_skip e =
      let l = local_of (get_or ls i d) in
      ap (local_names i) (locals_left ls i d h) ∙ no_name l.bound l.kind i (local_names (suc i) (locals_of (drop (i + 1) ls))) e
      ∙ ap (λ n. local_names n (locals_of (drop (i + 1) ls))) (sym (add-one i))

  pub names_take : (s : ℕ) → free_sort (local_of (get_or ls i d)) ≡ Some s
      → local_names i (locals_of (drop i ls)) ≡ record { sort = s; num = i } ∷ local_names (i + 1) (locals_of (drop (i + 1) ls))
  names_take s e =
      let l = local_of (get_or ls i d) in
      ap (local_names i) (locals_left ls i d h) ∙ a_name l.bound l.kind i s (local_names (suc i) (locals_of (drop (i + 1) ls))) e
      ∙ ap (λ n. record { sort = s; num = i } ∷ local_names n (locals_of (drop (i + 1) ls))) (sym (add-one i))

  pub vars_skip : is_free_var (local_of (get_or ls i d)) ≡ false → local_vars i (locals_of (drop i ls)) ≡ local_vars (i + 1) (locals_of (drop (i + 1) ls))
  vars_skip e =
      let l = local_of (get_or ls i d) in
      ap (local_vars i) (locals_left ls i d h) ∙ no_var l.bound l.kind i (local_vars (suc i) (locals_of (drop (i + 1) ls))) e
      ∙ ap (λ n. local_vars n (locals_of (drop (i + 1) ls))) (sym (add-one i))

  pub vars_take : is_free_var (local_of (get_or ls i d)) ≡ true → local_vars i (locals_of (drop i ls)) ≡ record { num = i } ∷ local_vars (i + 1) (locals_of (drop (i + 1) ls))
  vars_take e =
      let l = local_of (get_or ls i d) in
      ap (local_vars i) (locals_left ls i d h) ∙ a_var l.bound l.kind i (local_vars (suc i) (locals_of (drop (i + 1) ls))) e
      ∙ ap (λ n. record { num = i } ∷ local_vars n (locals_of (drop (i + 1) ls))) (sym (add-one i))

-- What stands for the free names and the free variables that are left.
module _ (ls : List Local) (i : ℕ) (l : Local) (h : i < length ls) (k : l ≡ get_or ls i l) where
  name_left : (s : ℕ) → free_sort (local_of l) ≡ Some s → local_names i (locals_of (drop i ls)) ≡ record { sort = s; num = i } ∷ local_names (i + 1) (locals_of (drop (i + 1) ls))
  name_left s e = names_take ls i l h s (ap (λ m. free_sort (local_of m)) (sym k) ∙ e)

  pub name_found : (names : List Name) (place s : ℕ) (b d : Name) → free_sort (local_of l) ≡ Some s → place < length names → name_eq (record { sort = s; num = i }) b ≡ true
      → name_for (local_names i (locals_of (drop i ls))) (drop place names) b ≡ get_or names place d
  name_found names place s b d e m f =
      ap (λ as'. name_for as' (drop place names) b) (name_left s e) ∙ ap (λ cs. name_for (record { sort = s; num = i } ∷ local_names (i + 1) (locals_of (drop (i + 1) ls))) cs b) (drop-cons names place d m)
      ∙ ap (λ v. if v then get_or names place d else name_for (local_names (i + 1) (locals_of (drop (i + 1) ls))) (drop (suc place) names) b) f

  pub name_later : (names : List Name) (place s : ℕ) (b d : Name) → free_sort (local_of l) ≡ Some s → place < length names → name_eq (record { sort = s; num = i }) b ≡ false
      → name_for (local_names i (locals_of (drop i ls))) (drop place names) b ≡ name_for (local_names (i + 1) (locals_of (drop (i + 1) ls))) (drop (place + 1) names) b
  name_later names place s b d e m f =
      ap (λ as'. name_for as' (drop place names) b) (name_left s e) ∙ ap (λ cs. name_for (record { sort = s; num = i } ∷ local_names (i + 1) (locals_of (drop (i + 1) ls))) cs b) (drop-cons names place d m)
      ∙ ap (λ v. if v then get_or names place d else name_for (local_names (i + 1) (locals_of (drop (i + 1) ls))) (drop (suc place) names) b) f
      ∙ ap (λ n. name_for (local_names (i + 1) (locals_of (drop (i + 1) ls))) (drop n names) b) (sym (add-one place))

-- Sorts and types of what is left.
no_type : (b : Bool) (k : NominalKind) (n : ℕ) (xs : List Var) → free_types.free_type_unless b k ≡ None → var_unless b k n xs ≡ xs
no_type true k n xs h = refl
no_type false (types.name s) n xs h = refl
no_type false (types.var t) n xs h = cc

a_type : (b : Bool) (k : NominalKind) (n : ℕ) (xs : List Var) (t : NominalType) → free_types.free_type_unless b k ≡ Some t → (var_unless b k n xs ≡ record { num = n } ∷ xs) × (k ≡ types.var t)
a_type true k n xs t h = cc
a_type false (types.name s) n xs t h = cc
a_type false (types.var u) n xs t h = let same : u ≡ t = cc in (refl, ap types.var same)

pub kind_there : (ls : List Local) (i : ℕ) (d : Local) → i < length ls → kind_at (kinds_of (locals_of ls)) i ≡ Some (local_of (get_or ls i d)).kind
kind_there [] i d h = absurd (omega arith)
kind_there (l ∷ ls) zero d h = refl
kind_there (l ∷ ls) (suc i) d h = kind_there ls i d (omega arith)

pub kind_past : (ls : List Local) (i : ℕ) → length ls ≤ i → kind_at (kinds_of (locals_of ls)) i ≡ None
kind_past [] i h = refl
kind_past (l ∷ ls) zero h = absurd (omega arith)
kind_past (l ∷ ls) (suc i) h = kind_past ls i (omega arith)

module _ (ls : List Local) (i : ℕ) (l : Local) (h : i < length ls) (k : l ≡ get_or ls i l) where
  abbrev names_then : List Name
  names_then = local_names (i + 1) (locals_of (drop (i + 1) ls))

  abbrev vars_then : List Var
  vars_then = local_vars (i + 1) (locals_of (drop (i + 1) ls))

  sort_left : (s : ℕ) → free_sort (local_of l) ≡ Some s → local_names i (locals_of (drop i ls)) ≡ record { sort = s; num = i } ∷ names_then
  sort_left s e = names_take ls i l h s (ap (λ m. free_sort (local_of m)) (sym k) ∙ e)

  pub sorts_skip : (cs : List Name) → free_sort (local_of l) ≡ None → have_sorts (local_names i (locals_of (drop i ls))) cs ≡ have_sorts names_then cs
  sorts_skip cs e = ap (λ as'. have_sorts as' cs) (names_skip ls i l h (ap (λ m. free_sort (local_of m)) (sym k) ∙ e))

  pub sorts_short : (names : List Name) (place s : ℕ) → free_sort (local_of l) ≡ Some s → length names ≤ place → have_sorts (local_names i (locals_of (drop i ls))) (drop place names) ≡ false
  sorts_short names place s e m = ap₂ have_sorts (sort_left s e) (drop-past names place m)

  pub sorts_other : (names : List Name) (place s : ℕ) (d : Name) → free_sort (local_of l) ≡ Some s → place < length names → ((get_or names place d).sort == s) ≡ false
      → have_sorts (local_names i (locals_of (drop i ls))) (drop place names) ≡ false
  sorts_other names place s d e m f = ap₂ have_sorts (sort_left s e) (drop-cons names place d m) ∙ ap (λ v. v && have_sorts names_then (drop (suc place) names)) f

  pub sorts_next : (names : List Name) (place s : ℕ) (d : Name) → free_sort (local_of l) ≡ Some s → place < length names → ((get_or names place d).sort == s) ≡ true
      → have_sorts (local_names i (locals_of (drop i ls))) (drop place names) ≡ have_sorts names_then (drop (place + 1) names)
  sorts_next names place s d e m f =
      ap₂ have_sorts (sort_left s e) (drop-cons names place d m) ∙ ap (λ v. v && have_sorts names_then (drop (suc place) names)) f ∙ ap (λ n. have_sorts names_then (drop n names)) (sym (add-one place))

  module _ (cs : List NominalConstructor) (vars : VarTypes) where
    abbrev Kinds : List Var → List NominalTerm → Bool
    Kinds xs ts = have_kinds cs vars (kinds_of (locals_of ls)) xs ts

    kind_here : kind_at (kinds_of (locals_of ls)) i ≡ Some (local_of l).kind
    kind_here = kind_there ls i l h ∙ ap (λ m. Some (local_of m).kind) (sym k)

    type_left : (t : NominalType) → free_type (local_of l) ≡ Some t → (local_vars i (locals_of (drop i ls)) ≡ record { num = i } ∷ vars_then) × (kind_at (kinds_of (locals_of ls)) i ≡ Some (types.var t))
    type_left t e =
        let m = local_of l in
        let r = a_type m.bound m.kind i (local_vars (suc i) (locals_of (drop (i + 1) ls))) t e in (
          ap (local_vars i) (locals_left ls i l h ∙ ap (λ n. local_of n ∷ locals_of (drop (i + 1) ls)) (sym k)) ∙ r.0 ∙ ap (λ n. record { num = i } ∷ local_vars n (locals_of (drop (i + 1) ls))) (sym (add-one i)),
          kind_here ∙ ap Some r.1,
        )

    pub kinds_skip : (ts : List NominalTerm) → free_type (local_of l) ≡ None → Kinds (local_vars i (locals_of (drop i ls))) ts ≡ Kinds vars_then ts
    kinds_skip ts e =
        let m = local_of l in
        ap (λ xs. Kinds xs ts)
        (ap (local_vars i) (locals_left ls i l h ∙ ap (λ n. local_of n ∷ locals_of (drop (i + 1) ls)) (sym k)) ∙ no_type m.bound m.kind i (local_vars (suc i) (locals_of (drop (i + 1) ls))) e
        ∙ ap (λ n. local_vars n (locals_of (drop (i + 1) ls))) (sym (add-one i)))

    module _ {A : Type 0} (view : A → NominalTerm) where
      pub kinds_short : (ts : List A) (place : ℕ) (t : NominalType) → free_type (local_of l) ≡ Some t → length ts ≤ place → Kinds (local_vars i (locals_of (drop i ls))) (map view (drop place ts)) ≡ false
      kinds_short ts place t e m = ap₂ Kinds (type_left t e).0 (ap (map view) (drop-past ts place m))

      kinds_split : (ts : List A) (place : ℕ) (t : NominalType) (d : A) → free_type (local_of l) ≡ Some t → place < length ts
          → Kinds (local_vars i (locals_of (drop i ls))) (map view (drop place ts)) ≡ (is_typed cs vars (view (get_or ts place d)) (one t) && Kinds vars_then (map view (drop (suc place) ts)))
      kinds_split ts place t d e m =
          ap₂ Kinds (type_left t e).0 (ap (map view) (drop-cons ts place d m))
          ∙ ap (λ o. has_kind cs vars o (view (get_or ts place d)) && Kinds vars_then (map view (drop (suc place) ts))) (type_left t e).1

      pub kinds_other : (ts : List A) (place : ℕ) (t : NominalType) (d : A) → free_type (local_of l) ≡ Some t → place < length ts → is_typed cs vars (view (get_or ts place d)) (one t) ≡ false
          → Kinds (local_vars i (locals_of (drop i ls))) (map view (drop place ts)) ≡ false
      kinds_other ts place t d e m f = kinds_split ts place t d e m ∙ ap (λ v. v && Kinds vars_then (map view (drop (suc place) ts))) f

      pub kinds_next : (ts : List A) (place : ℕ) (t : NominalType) (d : A) → free_type (local_of l) ≡ Some t → place < length ts → is_typed cs vars (view (get_or ts place d)) (one t) ≡ true
          → Kinds (local_vars i (locals_of (drop i ls))) (map view (drop place ts)) ≡ Kinds vars_then (map view (drop (place + 1) ts))
      kinds_next ts place t d e m f =
          kinds_split ts place t d e m ∙ ap (λ v. v && Kinds vars_then (map view (drop (suc place) ts))) f ∙ ap (λ n. Kinds vars_then (map view (drop n ts))) (sym (add-one place))

-- Nothing is left.
zero_suc : (n : ℕ) → nat_eq 0 (suc n) ≡ false
zero_suc n = grind (arith, nat_tests)

eq_suc : (m n : ℕ) → nat_eq (suc m) (suc n) ≡ nat_eq m n
eq_suc m n = grind (arith, nat_tests)

sorts_rest : (names : List Name) (place : ℕ) → place ≤ length names → nat_eq place (length names) ≡ have_sorts [] (drop place names)
sorts_rest [] zero h = refl
sorts_rest [] (suc n) h = absurd (omega arith)
sorts_rest (a ∷ as') zero h = zero_suc (length as')
sorts_rest (a ∷ as') (suc n) h = eq_suc n (length as') ∙ sorts_rest as' n (omega arith)

pub sorts_end : (ls : List Local) (i : ℕ) (names : List Name) (place : ℕ) → length ls ≤ i → place ≤ length names
    → nat_eq place (length names) ≡ have_sorts (local_names i (locals_of (drop i ls))) (drop place names)
sorts_end ls i names place h k = sorts_rest names place k ∙ ap (λ (ms : List Local). have_sorts (local_names i (locals_of ms)) (drop place names)) (sym (drop-past ls i h))

module _ (cs : List NominalConstructor) (vars : VarTypes) (kinds : List NominalKind) {A : Type 0} (view : A → NominalTerm) where
  kinds_rest : (ts : List A) (place : ℕ) → place ≤ length ts → nat_eq place (length ts) ≡ have_kinds cs vars kinds [] (map view (drop place ts))
  kinds_rest [] zero h = refl
  kinds_rest [] (suc n) h = absurd (omega arith)
  kinds_rest (t ∷ ts) zero h = zero_suc (length ts)
  kinds_rest (t ∷ ts) (suc n) h = eq_suc n (length ts) ∙ kinds_rest ts n (omega arith)

  pub kinds_end : (ls : List Local) (i : ℕ) (ts : List A) (place : ℕ) → length ls ≤ i → place ≤ length ts
      → nat_eq place (length ts) ≡ have_kinds cs vars kinds (local_vars i (locals_of (drop i ls))) (map view (drop place ts))
  kinds_end ls i ts place h k = kinds_rest ts place k ∙ ap (λ (ms : List Local). have_kinds cs vars kinds (local_vars i (locals_of ms)) (map view (drop place ts))) (sym (drop-past ls i h))

pub other_number : (x : Var) (i : ℕ) → (x.num ≡ i → ⊥) → var_eq (record { num = i }) x ≡ false
other_number x i h = grind (arith, nat_tests)
