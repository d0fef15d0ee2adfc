-- The variables of what is typed are identifiers, and stand there.
use Rattle.std.proofs.Common.{subst, ◌≡◌, ◌≢◌, ◌⊎◌, ℕ, Bool, true, false, ◌&&◌, ◌||◌, List, [], ◌∷◌, ◌++◌, map, refl, sym, ap, ◌∙◌, inl, inr, true≢false}
use Rattle.std.specs.Prelude.{if◌then◌else◌, ◌==◌, not, Option, Some, None}
use Rattle.ap_defs.specs.Answers.{kind_at}
use Rattle.ap_defs.specs.Freshness.{var_eq}
use Rattle.ap_defs.specs.Goals.{NominalGoal, succeed, atom, equal, fresh, both, either, exists, new}
use Rattle.ap_defs.specs.Occurrences.{free_vars, vars_of_terms, without_name, without_var}
use Rattle.ap_defs.specs.Permutations.{has_name, name_eq}
use Rattle.ap_defs.specs.Terms as terms
use Rattle.ap_defs.specs.Terms.{NominalTerm}
use Rattle.ap_defs.specs.Types as types
use Rattle.ap_defs.specs.Types.{NominalConstructor, NominalKind, NominalType}
use Rattle.ap_defs.specs.Typing.{Want, one}
use Rattle.ap_defs.specs.Unification.{has_var, vars_then}
use Rattle.ap_defs.specs.declared.terms.Name.{Name}
use Rattle.ap_defs.specs.declared.terms.Var.{Var}
use Rattle.ap_program.specs.RawTyping.{HasTermType, IsTypedTerm, IsVarOf}
use Rattle.ap_program.specs.Typed.{AreArguments, HaveTypes, IsTypedGoal, predicate_at, stands_free, stands_in_some, stands_in_swaps, stands_in_term}
use Rattle.ap_search.proofs.RecordLemmas.{has_var-append}
use Rattle.ap_search.proofs.TypingLemmas.{abs_view, app_view, pair_view, susp_view}
use Rattle.ap_theory.proofs.BooleanLemmas.{or_cases, or_if_left, or_if_right}
use Rattle.ap_theory.proofs.PermutationLemmas.{name_eq_itself, name_eq_same}
use Rattle.ap_theory.proofs.TermLemmas.{number_same, same_var, var_same}

-- the variable is an identifier
abbrev pub IsVariable : List NominalKind → Var → Type 0
IsVariable kinds x = (a : NominalType) × IsVarOf kinds x a

-- a name that is left after another was taken out was there, and is another one
pub has_without : (a b : Name) (bs : List Name) → has_name b (without_name a bs) ≡ true → (has_name b bs ≡ true) × (b ≢ a)
has_without a b [] h = absurd (true≢false (sym h))
has_without a b (c ∷ bs) h =
    elim (name_eq a c) as (λ v. name_eq a c ≡ v → has_name b (if v then without_name a bs else (c ∷ without_name a bs)) ≡ true → (has_name b (c ∷ bs) ≡ true) × (b ≢ a)) [
      | true ↦ λ e k. let r = has_without a b bs k in (or_if_right (name_eq b c) (has_name b bs) r.0, r.1)
      | false ↦ λ e k. elim (or_cases (name_eq b c) (has_name b (without_name a bs)) k) [
        | inl i ↦ (
          or_if_left (name_eq b c) (has_name b bs) i,
          λ f. true≢false (sym (name_eq_itself a) ∙ ap (name_eq a) (sym f ∙ name_eq_same b c i) ∙ e),
        )
        | inr i ↦ let r = has_without a b bs i in (or_if_right (name_eq b c) (has_name b bs) r.0, r.1)
      ]
    ] refl h

pub has_without_var : (x y : Var) (ys : List Var) → has_var y (without_var x ys) ≡ true → (has_var y ys ≡ true) × (y ≢ x)
has_without_var x y [] h = absurd (true≢false (sym h))
has_without_var x y (z ∷ ys) h =
    elim (var_eq x z) as (λ v. var_eq x z ≡ v → has_var y (if v then without_var x ys else (z ∷ without_var x ys)) ≡ true → (has_var y (z ∷ ys) ≡ true) × (y ≢ x)) [
      | true ↦ λ e k. let r = has_without_var x y ys k in (or_if_right (var_eq y z) (has_var y ys) r.0, r.1)
      | false ↦ λ e k. elim (or_cases (var_eq y z) (has_var y (without_var x ys)) k) [
        | inl i ↦ (
          or_if_left (var_eq y z) (has_var y ys) i,
          λ f. true≢false (sym (same_var x z (sym f ∙ var_same y z i)) ∙ e),
        )
        | inr i ↦ let r = has_without_var x y ys i in (or_if_right (var_eq y z) (has_var y ys) r.0, r.1)
      ]
    ] refl h

pub has_var_of_map : (f : Var → Var) (x : Var) (xs : List Var) → has_var x (map f xs) ≡ true → (y : Var) × (has_var y xs ≡ true) × (x ≡ f y)
has_var_of_map f x [] h = absurd (true≢false (sym h))
has_var_of_map f x (y ∷ ys) h =
    elim (or_cases (var_eq x (f y)) (has_var x (map f ys)) h) [
      | inl e ↦ (y, or_if_left (var_eq y y) (has_var y ys) (same_var y y refl), var_same x (f y) e)
      | inr m ↦ let r = has_var_of_map f x ys m in (r.0, or_if_right (var_eq r.0 y) (has_var r.0 ys) r.1, r.2)
    ]

module _ (cs : List NominalConstructor) (kinds : List NominalKind) where
  -- a variable that stands in something
  abbrev VarIn : Var → Bool → Type 0
  VarIn x stands = IsVariable kinds x × (stands ≡ true)

  var_in_left : (x : Var) (v w : Bool) → VarIn x v → VarIn x (v || w)
  var_in_left x v w h = (h.0, or_if_left v w h.1)

  var_in_right : (x : Var) (v w : Bool) → VarIn x w → VarIn x (v || w)
  var_in_right x v w h = (h.0, or_if_right v w h.1)

  pub var_stands : (t : NominalTerm) (w : Want) → IsTypedTerm cs kinds t w → (x : Var) (xs : List Var) → has_var x (vars_then t xs) ≡ true
      → VarIn x (stands_in_term x.num t) ⊎ (has_var x xs ≡ true)
  var_stands terms.unit w h x xs k = inr k
  var_stands (terms.name a) w h x xs k = inr k
  var_stands (terms.pair t u) w h x xs k =
      let v = pair_view cs kinds t u w h in
      elim (var_stands t v.first v.left x (vars_then u xs) k) [
        | inl i ↦ inl (var_in_left x (stands_in_term x.num t) (stands_in_term x.num u) i)
        | inr m ↦ elim (var_stands u v.second v.right x xs m) [
          | inl i ↦ inl (var_in_right x (stands_in_term x.num t) (stands_in_term x.num u) i)
          | inr i ↦ inr i
        ]
      ]
  var_stands (terms.app f t) w h x xs k = let v = app_view cs kinds f t w h in var_stands t v.inner v.here x xs k
  var_stands (terms.abs a t) w h x xs k =
      let v = abs_view cs kinds a t w h in
      elim (var_stands t (one v.1) v.4 x xs k) [ inl i ↦ inl (var_in_right x (x.num == a.num) (stands_in_term x.num t) i) | inr i ↦ inr i ]
  var_stands (terms.susp p y) w h x xs k =
      let v = susp_view cs kinds p y w h in
      elim (or_cases (var_eq x y) (has_var x xs) k) [
        | inl e ↦ inl ((v.0, subst (λ (z : Var). IsVarOf kinds z v.0) (sym (var_same x y e)) v.3), or_if_right (stands_in_swaps x.num p) (x.num == y.num) e)
        | inr i ↦ inr i
      ]

  vars_stand : (ts : List NominalTerm) (as' : List NominalType) → HaveTypes (HasTermType cs kinds) ts as' → (x : Var) → has_var x (vars_of_terms ts) ≡ true
      → VarIn x (stands_in_some stands_in_term x.num ts)
  vars_stand [] as' h x k = absurd (true≢false (sym k))
  vars_stand (t ∷ ts) [] h x k = absurd h
  vars_stand (t ∷ ts) (a ∷ as') h x k =
      elim (var_stands t (one a) h.0 x (vars_of_terms ts) k) [
        | inl i ↦ var_in_left x (stands_in_term x.num t) (stands_in_some stands_in_term x.num ts) i
        | inr m ↦ var_in_right x (stands_in_term x.num t) (stands_in_some stands_in_term x.num ts) (vars_stand ts as' h.1 x m)
      ]

  two_vars : (t u : NominalTerm) (v w : Want) → IsTypedTerm cs kinds t v → IsTypedTerm cs kinds u w → (x : Var) → has_var x (vars_then t (vars_then u [])) ≡ true
      → VarIn x (stands_in_term x.num t || stands_in_term x.num u)
  two_vars t u v w h i x k =
      elim (var_stands t v h x (vars_then u []) k) [
        | inl j ↦ var_in_left x (stands_in_term x.num t) (stands_in_term x.num u) j
        | inr m ↦ elim (var_stands u w i x [] m) [
          | inl j ↦ var_in_right x (stands_in_term x.num t) (stands_in_term x.num u) j
          | inr j ↦ absurd (true≢false (sym j))
        ]
      ]

  -- what is free in a goal is not what a `new` or `exists` around it brings
  another : (m n : ℕ) (b : Bool) → (m ≡ n → ⊥) → b ≡ true → (not (m == n) && b) ≡ true
  another m n b h k =
      elim (m == n) as (λ v. (m == n) ≡ v → (not v && b) ≡ true) [ true ↦ λ e. absurd (h (number_same m n e)) | false ↦ λ e. k ] refl

  kinds_differ : (n : ℕ) (s : ℕ) (a : NominalType) → kind_at kinds n ≡ Some (types.name s) → kind_at kinds n ≡ Some (types.var a) → ⊥
  kinds_differ n s a h k = cc

  module _ (preds : List (List NominalType)) where
    arguments_vars : (ts : List NominalTerm) (o : Option (List NominalType)) → AreArguments (HasTermType cs kinds) ts o → (x : Var) → has_var x (vars_of_terms ts) ≡ true
        → VarIn x (stands_in_some stands_in_term x.num ts)
    arguments_vars ts None h x k = absurd h
    arguments_vars ts (Some as') h x k = vars_stand ts as' h x k

    abbrev IsTypedHere : NominalGoal → Type 0
    IsTypedHere goal = IsTypedGoal (HasTermType cs kinds) preds kinds goal

    either_var : (x : Var) (f h : NominalGoal) (v w : Bool) → (has_var x (free_vars f) ≡ true → VarIn x v) → (has_var x (free_vars h) ≡ true → VarIn x w)
        → has_var x (free_vars f ++ free_vars h) ≡ true → VarIn x (v || w)
    either_var x f h v w i j k =
        elim (or_cases (has_var x (free_vars f)) (has_var x (free_vars h)) (sym (has_var-append x (free_vars f) (free_vars h)) ∙ k)) [
          | inl m ↦ var_in_left x v w (i m)
          | inr m ↦ var_in_right x v w (j m)
        ]

    pub free_var_stands : (goal : NominalGoal) → IsTypedHere goal → (x : Var) → has_var x (free_vars goal) ≡ true → VarIn x (stands_free stands_in_term x.num goal)
    free_var_stands succeed h x k = absurd (true≢false (sym k))
    free_var_stands (atom p ts) h x k = arguments_vars ts (predicate_at preds p) h x k
    free_var_stands (equal t u) h x k = two_vars t u (one h.0) (one h.0) h.1 h.2 x k
    free_var_stands (fresh t u) h x k = two_vars t u (one (types.names h.0.0)) (one h.1.0) h.0.1 h.1.1 x k
    free_var_stands (both f i) h x k = either_var x f i _ _ (free_var_stands f h.0 x) (free_var_stands i h.1 x) k
    free_var_stands (either f i) h x k = either_var x f i _ _ (free_var_stands f h.0 x) (free_var_stands i h.1 x) k
    free_var_stands (exists y f) h x k =
        let o = has_without_var y x (free_vars f) k in
        let r = free_var_stands f h.1 x o.0 in
        (r.0, another x.num y.num (stands_free stands_in_term x.num f) (λ e. o.1 (ap (λ n. record { num = n }) e)) r.1)
    free_var_stands (new a f) h x k =
        let r = free_var_stands f h.1 x k in
        (r.0, another x.num a.num (stands_free stands_in_term x.num f) (λ e. kinds_differ x.num a.sort r.0.0 (ap (kind_at kinds) e ∙ h.0.1) r.0.1) r.1)
