-- Where no kind is one of a name, an item with sorts is itself.
use Rattle.std.proofs.Common.{◌≡◌, ◌∙◌, ◌<◌, ◌≤◌, ◌+◌, ℕ, zero, suc, List, [], ◌∷◌, map, length, drop, get_or, Some, refl, sym, ap, subst, arith, add-one, drop-cons}
use Rattle.ap_defs.specs.declared.goals.Kind.{Kind}
use Rattle.ap_defs.specs.declared.terms.Name.{Name}
use Rattle.ap_defs.specs.declared.terms.Id.{Id}
use Rattle.ap_defs.specs.declared.terms.Id.TheVariants as ids
use Rattle.ap_defs.specs.RawTerms as raw
use Rattle.ap_defs.specs.RawTerms.{RawTerm}
use Rattle.ap_defs.specs.Types.{NominalKind, kind_of}
use Rattle.ap_defs.specs.Goals.{GoalOver, succeed, atom, equal, fresh, both, either, exists, new}
use Rattle.ap_kinds.specs.Sorts.{sort_in, KeepSorts, name_with_sort, id_with_sort, with_sorts, terms_with_sorts, goal_with_sorts}

keep_first : (k : Kind) (ks : List Kind) → ((sort : ℕ) → sort_in (Some (kind_of k)) sort ≡ sort) → KeepSorts (map kind_of ks) → KeepSorts (map kind_of (k ∷ ks))
keep_first k ks own rest zero sort = own sort
keep_first k ks own rest (suc n) sort = rest n sort

-- one kind more was looked at
pub keep_next : (ks : List Kind) (i : ℕ) (k : Kind) → i < length ks → k ≡ get_or ks i k → ((sort : ℕ) → sort_in (Some (kind_of k)) sort ≡ sort)
    → (KeepSorts (map kind_of (drop i ks)) → KeepSorts (map kind_of ks)) → KeepSorts (map kind_of (drop (i + 1) ks)) → KeepSorts (map kind_of ks)
keep_next ks i k h e own all rest =
    let front : drop i ks ≡ k ∷ drop (suc i) ks = drop-cons ks i k h ∙ ap (λ j. j ∷ drop (suc i) ks) (sym e) in
    all (subst (λ js. KeepSorts (map kind_of js)) (sym front) (keep_first k (drop (suc i) ks) own (subst (λ n. KeepSorts (map kind_of (drop n ks))) (add-one i) rest)))

-- none is left to look at
pub keep_none : (ks : List Kind) (i : ℕ) → length ks ≤ i → KeepSorts (map kind_of (drop i ks))
keep_none [] zero l n sort = refl
keep_none [] (suc i) l n sort = refl
keep_none (k ∷ ks) zero l n sort = absurd (omega arith)
keep_none (k ∷ ks) (suc i) l n sort = keep_none ks i (omega arith) n sort

module _ (ks : List NominalKind) (h : KeepSorts ks) where
  name_keeps : (a : Name) → a ≡ name_with_sort ks a
  name_keeps a = ap (λ s. record { sort = s; num = a.num }) (sym (h a.num a.sort))

  id_keeps : (i : Id) → i ≡ id_with_sort ks i
  id_keeps (ids.Name a) = ap (λ b. ids.Name b) (name_keeps a)
  id_keeps (ids.Var x) = refl

  term_keeps : (t : RawTerm) → t ≡ with_sorts ks t
  term_keeps raw.unit = refl
  term_keeps (raw.name a) = ap raw.name (name_keeps a)
  term_keeps (raw.var x) = refl
  term_keeps (raw.pair t u) = ap (λ v. raw.pair v u) (term_keeps t) ∙ ap (raw.pair (with_sorts ks t)) (term_keeps u)
  term_keeps (raw.app f t) = ap (raw.app f) (term_keeps t)
  term_keeps (raw.abs i t) = ap (λ j. raw.abs j t) (id_keeps i) ∙ ap (raw.abs (id_with_sort ks i)) (term_keeps t)
  term_keeps (raw.swapped i j t) = ap (λ k. raw.swapped k j t) (id_keeps i) ∙ ap (λ k. raw.swapped (id_with_sort ks i) k t) (id_keeps j) ∙ ap (raw.swapped (id_with_sort ks i) (id_with_sort ks j)) (term_keeps t)

  pub terms_keep : (ts : List RawTerm) → ts ≡ terms_with_sorts ks ts
  terms_keep [] = refl
  terms_keep (t ∷ ts) = ap (λ u. u ∷ ts) (term_keeps t) ∙ ap (λ us. with_sorts ks t ∷ us) (terms_keep ts)

  pub goal_keeps : (g : GoalOver RawTerm) → g ≡ goal_with_sorts ks g
  goal_keeps succeed = refl
  goal_keeps (atom p ts) = ap (atom p) (terms_keep ts)
  goal_keeps (equal t u) = ap (λ v. equal v u) (term_keeps t) ∙ ap (equal (with_sorts ks t)) (term_keeps u)
  goal_keeps (fresh t u) = ap (λ v. fresh v u) (term_keeps t) ∙ ap (fresh (with_sorts ks t)) (term_keeps u)
  goal_keeps (both g k) = ap (λ v. both v k) (goal_keeps g) ∙ ap (both (goal_with_sorts ks g)) (goal_keeps k)
  goal_keeps (either g k) = ap (λ v. either v k) (goal_keeps g) ∙ ap (either (goal_with_sorts ks g)) (goal_keeps k)
  goal_keeps (exists x g) = ap (exists x) (goal_keeps g)
  goal_keeps (new a g) = ap (λ b. new b g) (name_keeps a) ∙ ap (new (name_with_sort ks a)) (goal_keeps g)
