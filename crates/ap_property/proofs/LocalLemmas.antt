-- The identifiers of a query with more free names.
use Rattle.std.proofs.Common.{◌≡◌, ◌<◌, ◌∙◌, ◌+◌, ℕ, zero, suc, Bool, true, false, List, [], ◌∷◌, ◌++◌, length, map, Option, Some, None, refl, sym, ap, subst, inl, inr, arith}
use Rattle.std.specs.Prelude.{slice_get}
use Rattle.ap_defs.specs.declared.terms.Name.{Name}
use Rattle.ap_defs.specs.declared.terms.Var.{Var}
use Rattle.ap_defs.specs.Answers.{kind_at}
use Rattle.ap_defs.specs.Permutations.{has_name, name_eq}
use Rattle.ap_defs.specs.Renaming.{local_names, local_vars, name_unless, var_unless}
use Rattle.ap_defs.specs.Resolution.{kinds_of}
use Rattle.ap_defs.specs.Types as types
use Rattle.ap_defs.specs.Types.{NominalKind, NominalLocal, NominalType}
use Rattle.ap_program.specs.RawTyping.{IsNameOf}
use Rattle.ap_program.specs.Typed.{AreInhabited, AreMarked, is_marked}
use Rattle.ap_theory.proofs.BooleanLemmas.{or_cases}
use Rattle.ap_theory.proofs.PermutationLemmas.{name_eq_same}
use Rattle.ap_search.proofs.TypingLemmas.{kind_at_back, kind_at_front}
use Rattle.ap_property.specs.Fitting.{IsKnown}
use Rattle.ap_property.specs.PutIn.{name_local}

-- Where a free name stands among the identifiers.
pub record IsNameAt (n : ℕ) (ls : List NominalLocal) (a : Name) : Type 0 where
  pub place : ℕ
  pub number : a.num ≡ n + place
  pub kind : kind_at (kinds_of ls) place ≡ Some (types.name a.sort)
  pub free : is_marked ls place ≡ false
  pub below : place < length ls

later_name : (n : ℕ) (l : NominalLocal) (ls : List NominalLocal) (a : Name) → IsNameAt (suc n) ls a → IsNameAt n (l ∷ ls) a
later_name n l ls a h = record {
  place = suc h.place;
  number = let e = h.number in omega (arith, e);
  kind = h.kind;
  free = h.free;
  below = let k = h.below in omega (arith, k);
}

pub name_at : (n : ℕ) (ls : List NominalLocal) (a : Name) → has_name a (local_names n ls) ≡ true → IsNameAt n ls a
name_at n [] a h = cc
name_at n (l ∷ ls) a h = first (name_at (suc n) ls a) l.bound l.kind refl refl h
  where
    here : (s : ℕ) → l.bound ≡ false → l.kind ≡ types.name s → record { sort = s; num = n } ≡ a → IsNameAt n (l ∷ ls) a
    here s b k e = subst (IsNameAt n (l ∷ ls)) e (record {
      place = zero;
      number = omega arith;
      kind = ap (λ x. Some x) k;
      free = b;
      below = omega arith;
    })

    first : (has_name a (local_names (suc n) ls) ≡ true → IsNameAt (suc n) ls a) → (b : Bool) (k : NominalKind) → l.bound ≡ b → l.kind ≡ k
        → has_name a (name_unless b k n (local_names (suc n) ls)) ≡ true → IsNameAt n (l ∷ ls) a
    first r true k e f i = later_name n l ls a (r i)
    first r false (types.var t) e f i = later_name n l ls a (r i)
    first r false (types.name s) e f i = elim (or_cases (name_eq a (record { sort = s; num = n })) (has_name a (local_names (suc n) ls)) i) [
      | inl j ↦ here s e f (sym (name_eq_same a (record { sort = s; num = n }) j))
      | inr j ↦ later_name n l ls a (r j)
    ]

-- each variable of the list is an identifier that isn't marked
abbrev pub AreUnmarked : ℕ → List NominalLocal → List Var → Type 0
AreUnmarked n ls [] = Unit {0}
AreUnmarked n ls (x ∷ xs) = ((k : ℕ) × (x.num ≡ n + k) × (is_marked ls k ≡ false)) × AreUnmarked n ls xs

later_vars : (n : ℕ) (l : NominalLocal) (ls : List NominalLocal) (xs : List Var) → AreUnmarked (suc n) ls xs → AreUnmarked n (l ∷ ls) xs
later_vars n l ls [] h = tt
later_vars n l ls (x ∷ xs) h = ((suc h.0.0, (let e = h.0.1 in omega (arith, e)), h.0.2), later_vars n l ls xs h.1)

pub local_vars_unmarked : (n : ℕ) (ls : List NominalLocal) → AreUnmarked n ls (local_vars n ls)
local_vars_unmarked n [] = tt
local_vars_unmarked n (l ∷ ls) = first l.bound l.kind refl (later_vars n l ls (local_vars (suc n) ls) (local_vars_unmarked (suc n) ls))
  where
    first : (b : Bool) (k : NominalKind) → l.bound ≡ b → AreUnmarked n (l ∷ ls) (local_vars (suc n) ls) → AreUnmarked n (l ∷ ls) (var_unless b k n (local_vars (suc n) ls))
    first true k e h = h
    first false (types.name s) e h = h
    first false (types.var t) e h = ((zero, omega arith, e), h)

-- names that are added
abbrev pub with_names : List NominalLocal → List ℕ → List NominalLocal
with_names ls ss = ls ++ map name_local ss

pub kinds_with : (ls : List NominalLocal) (ss : List ℕ) → kinds_of (with_names ls ss) ≡ kinds_of ls ++ map types.name ss
kinds_with [] [] = refl
kinds_with [] (s ∷ ss) = ap (λ ks. types.name s ∷ ks) (kinds_with [] ss)
kinds_with (l ∷ ls) ss = ap (λ ks. l.kind ∷ ks) (kinds_with ls ss)

no_var_names : (n : ℕ) (ss : List ℕ) → local_vars n (map name_local ss) ≡ []
no_var_names n [] = refl
no_var_names n (s ∷ ss) = no_var_names (suc n) ss

pub vars_with : (n : ℕ) (ls : List NominalLocal) (ss : List ℕ) → local_vars n (with_names ls ss) ≡ local_vars n ls
vars_with n [] ss = no_var_names n ss
vars_with n (l ∷ ls) ss = ap (var_unless l.bound l.kind n) (vars_with (suc n) ls ss)

pub marked_with : (ls : List NominalLocal) (ss : List ℕ) (k : ℕ) → is_marked ls k ≡ true → is_marked (with_names ls ss) k ≡ true
marked_with [] ss k h = cc
marked_with (l ∷ ls) ss zero h = h
marked_with (l ∷ ls) ss (suc k) h = marked_with ls ss k h

unmarked_names : (ss : List ℕ) (k : ℕ) → is_marked (map name_local ss) k ≡ false
unmarked_names [] zero = refl
unmarked_names [] (suc k) = refl
unmarked_names (s ∷ ss) zero = refl
unmarked_names (s ∷ ss) (suc k) = unmarked_names ss k

pub marked_without : (ls : List NominalLocal) (ss : List ℕ) (k : ℕ) → is_marked (with_names ls ss) k ≡ true → is_marked ls k ≡ true
marked_without [] ss k h = let no : true ≡ false = sym h ∙ unmarked_names ss k in cc
marked_without (l ∷ ls) ss zero h = h
marked_without (l ∷ ls) ss (suc k) h = marked_without ls ss k h

pub all_marked_with : (ls : List NominalLocal) (ss ns : List ℕ) → AreMarked ls ns → AreMarked (with_names ls ss) ns
all_marked_with ls ss [] h = tt
all_marked_with ls ss (n ∷ ns) h = (marked_with ls ss n h.0, all_marked_with ls ss ns h.1)

pub past_unmarked : (ls : List NominalLocal) (k : ℕ) → is_marked ls (length ls + k) ≡ false
past_unmarked [] zero = refl
past_unmarked [] (suc k) = refl
past_unmarked (l ∷ ls) k = let e : suc (length ls) + k ≡ suc (length ls + k) = omega arith in ap (is_marked (l ∷ ls)) e ∙ past_unmarked ls k

sort_kind : (ss : List ℕ) (k s : ℕ) → slice_get ss k ≡ Some s → kind_at (map types.name ss) k ≡ Some (types.name s)
sort_kind [] zero s e = cc
sort_kind [] (suc k) s e = cc
sort_kind (t ∷ ss) zero s e = ap kind_of_sort e
  where
    kind_of_sort : Option ℕ → Option NominalKind
    kind_of_sort None = None
    kind_of_sort (Some n) = Some (types.name n)
sort_kind (t ∷ ss) (suc k) s e = sort_kind ss k s e

kinds_length : (ls : List NominalLocal) → length (kinds_of ls) ≡ length ls
kinds_length [] = refl
kinds_length (l ∷ ls) = let k = kinds_length ls in omega (arith, k)

-- a known name is an identifier, and isn't marked
pub known_name : (ls : List NominalLocal) (ss : List ℕ) (a : Name) → IsKnown ls ss a → IsNameOf (kinds_of (with_names ls ss)) a a.sort
known_name ls ss a (inl h) =
    let i = name_at 0 ls a h in
    let n : i.place ≡ a.num = let e = i.number in omega (arith, e) in (
      refl,
      ap (λ ks. kind_at ks a.num) (kinds_with ls ss)
          ∙ kind_at_front (kinds_of ls) (map types.name ss) a.num (types.name a.sort) (ap (kind_at (kinds_of ls)) (sym n) ∙ i.kind),
    )
known_name ls ss a (inr (k, e, s)) =
    let n : a.num ≡ length (kinds_of ls) + k = let l = kinds_length ls in omega (arith, e, l) in (
      refl,
      ap (λ ks. kind_at ks a.num) (kinds_with ls ss) ∙ ap (kind_at (kinds_of ls ++ map types.name ss)) n
          ∙ kind_at_back (kinds_of ls) (map types.name ss) k ∙ sort_kind ss k a.sort s,
    )

pub known_unmarked : (ls : List NominalLocal) (ss : List ℕ) (a : Name) → IsKnown ls ss a → is_marked ls a.num ≡ false
known_unmarked ls ss a (inl h) =
    let i = name_at 0 ls a h in
    let n : a.num ≡ i.place = let e = i.number in omega (arith, e) in
    ap (is_marked ls) n ∙ i.free
known_unmarked ls ss a (inr (k, e, s)) = ap (is_marked ls) e ∙ past_unmarked ls k

pub inhabited_with : (cs : List types.NominalConstructor) (ls : List NominalLocal) (ss : List ℕ) → AreInhabited cs (kinds_of ls) → AreInhabited cs (kinds_of (with_names ls ss))
inhabited_with cs [] [] h = tt
inhabited_with cs [] (s ∷ ss) h = inhabited_with cs [] ss h
inhabited_with cs (l ∷ ls) ss h = first (inhabited_with cs ls ss) l.kind h
  where
    first : (AreInhabited cs (kinds_of ls) → AreInhabited cs (kinds_of (with_names ls ss))) → (k : NominalKind)
        → AreInhabited cs (k ∷ kinds_of ls) → AreInhabited cs (k ∷ kinds_of (with_names ls ss))
    first r (types.name s) i = r i
    first r (types.var t) i = (i.0, r i.1)
