-- A grounding that gives typed variables terms of their types for which given names are fresh.
use Rattle.std.proofs.Common.{subst, ◌≡◌, ℕ, zero, suc, true, false, ◌||◌, List, [], ◌∷◌, refl, sym, ap, ◌∙◌, inl, inr}
use Rattle.std.specs.Prelude.{if◌then◌else◌, Option, Some}
use Rattle.ap_defs.specs.Alpha.{fresh}
use Rattle.ap_defs.specs.Answers.{kind_at}
use Rattle.ap_defs.specs.Freshness.{var_eq}
use Rattle.ap_defs.specs.GroundProofs.{HasTypeOf}
use Rattle.ap_defs.specs.Groundings.{Grounding}
use Rattle.ap_defs.specs.Permutations.{has_name}
use Rattle.ap_defs.specs.Terms.{act_ground, unit}
use Rattle.ap_defs.specs.Types as types
use Rattle.ap_defs.specs.Types.{NominalConstructor, NominalKind, NominalType}
use Rattle.ap_defs.specs.Typing.{IsOfType}
use Rattle.ap_defs.specs.Unification.{has_var}
use Rattle.ap_defs.specs.declared.terms.Name.{Name}
use Rattle.ap_defs.specs.declared.terms.Swap.{Swap}
use Rattle.ap_defs.specs.declared.terms.Var.{Var}
use Rattle.ap_program.specs.RawTyping.{AreVarsOf, IsVarOf}
use Rattle.ap_program.specs.Typed.{AreInhabited}
use Rattle.ap_theory.proofs.BooleanLemmas.{or_cases, or_if_left, or_if_right}
use Rattle.ap_theory.proofs.TermLemmas.{same_var, var_same}
use Rattle.ap_types.specs.Inhabited.{IsInhabited}
use Rattle.ap_ground.specs.ShownInstances.{vars_among}
use Rattle.ap_ground.specs.TypedGroundings.{GivesKinds, GivesTypes, HaveInhabitants}
use Rattle.ap_ground.proofs.GroundTypingLemmas.{of_type_act}
use Rattle.ap_ground.proofs.InstanceTypingLemmas.{inhabited_avoids}

-- the variables, without their types
abbrev pub only_vars : List (Var × NominalType) → List Var
only_vars [] = []
only_vars (v ∷ vs) = v.0 ∷ only_vars vs

module _ (cs : List NominalConstructor) (avoided : List Name) where
  -- a term of the type for which the names are fresh; any term for other variables
  abbrev pub filler : (vs : List (Var × NominalType)) → HaveInhabitants cs vs → Grounding
  filler [] h x = unit
  filler (v ∷ vs) h x = if var_eq x v.0 then (inhabited_avoids cs v.1 h.0 avoided).0 else filler vs h.1 x

  pub filler_fresh : (vs : List (Var × NominalType)) (h : HaveInhabitants cs vs) (x : Var) (a : Name) → has_name a avoided ≡ true → fresh a (filler vs h x) ≡ true
  filler_fresh [] h x a k = refl
  filler_fresh (v ∷ vs) h x a k =
      elim (var_eq x v.0) as (λ b. fresh a (if b then (inhabited_avoids cs v.1 h.0 avoided).0 else filler vs h.1 x) ≡ true) [
        | true ↦ (inhabited_avoids cs v.1 h.0 avoided).2 a k
        | false ↦ filler_fresh vs h.1 x a k
      ]

  pub filler_typed : (kinds : List NominalKind) (vs : List (Var × NominalType)) (h : HaveInhabitants cs vs) → AreVarsOf kinds vs
      → (x : Var) (t : NominalType) → IsVarOf kinds x t → has_var x (only_vars vs) ≡ true → IsOfType cs (filler vs h x) t
  filler_typed kinds [] h k x t i m = cc
  filler_typed kinds (v ∷ vs) h k x t i m =
      elim (var_eq x v.0) as (λ b. var_eq x v.0 ≡ b → (b || has_var x (only_vars vs)) ≡ true
      → IsOfType cs (if b then (inhabited_avoids cs v.1 h.0 avoided).0 else filler vs h.1 x) t) [
        | true ↦ λ e n.
            let same : v.1 ≡ t = one_type kinds v.0 x v.1 t k.0 i (sym (var_same x v.0 e)) in
            subst (λ (a : NominalType). IsOfType cs (inhabited_avoids cs v.1 h.0 avoided).0 a) same (inhabited_avoids cs v.1 h.0 avoided).1
        | false ↦ λ e n. filler_typed kinds vs h.1 k.1 x t i n
      ] refl m
    where
      some_var : (a b : NominalType) → Some (types.var a) ≡ Some (types.var b) → a ≡ b
      some_var a b e = cc

      one_type : (kinds : List NominalKind) (x y : Var) (a b : NominalType) → IsVarOf kinds x a → IsVarOf kinds y b → x ≡ y → a ≡ b
      one_type kinds x y a b h k e = some_var a b (sym h ∙ ap (λ (z : Var). kind_at kinds z.num) e ∙ k)

-- the first grounding on some variables, the second one on others
abbrev pub filled : List Var → Grounding → Grounding → Grounding
filled xs g h x = if has_var x xs then g x else h x

pub filled_among : (xs : List Var) (g h : Grounding) (x : Var) → has_var x xs ≡ true → filled xs g h x ≡ g x
filled_among xs g h x k = rw k refl

module _ (cs : List NominalConstructor) (xs : List Var) (g h : Grounding) where
  pub filled_types : (vs : List (Var × NominalType)) → GivesTypes cs (vars_among xs vs) g → GivesTypes cs vs h → GivesTypes cs vs (filled xs g h)
  filled_types [] k l = tt
  filled_types (v ∷ vs) k l =
      elim (has_var v.0 xs) as (λ b. has_var v.0 xs ≡ b → GivesTypes cs (if b then (v ∷ vars_among xs vs) else vars_among xs vs) g
      → IsOfType cs (if b then g v.0 else h v.0) v.1 × GivesTypes cs vs (filled xs g h)) [
        | true ↦ λ e m. (m.0, filled_types vs m.1 l.1)
        | false ↦ λ e m. (l.0, filled_types vs m l.1)
      ] refl k

-- a grounding that is typed by kinds gives types
pub gives_types : (cs : List NominalConstructor) (kinds : List NominalKind) (g : Grounding) (vs : List (Var × NominalType)) → AreVarsOf kinds vs
    → ((x : Var) (t : NominalType) → IsVarOf kinds x t → has_var x (only_vars vs) ≡ true → IsOfType cs (g x) t) → GivesTypes cs vs g
gives_types cs kinds g [] k h = tt
gives_types cs kinds g (v ∷ vs) k h = (
  h v.0 v.1 k.0 (or_if_left (var_eq v.0 v.0) (has_var v.0 (only_vars vs)) (same_var v.0 v.0 refl)),
  gives_types cs kinds g vs k.1 (λ x t i m. h x t i (or_if_right (var_eq x v.0) (has_var x (only_vars vs)) m)),
)

pub gives_types_act : (cs : List NominalConstructor) (s : List Swap) (g : Grounding) (vs : List (Var × NominalType)) → GivesTypes cs vs g → GivesTypes cs vs (λ x. act_ground s (g x))
gives_types_act cs s g [] h = tt
gives_types_act cs s g (v ∷ vs) h = (of_type_act cs s (g v.0) v.1 h.0, gives_types_act cs s g vs h.1)

-- Kinds of which each type is inhabited, and what they say of variables.
kind_inhabited : (cs : List NominalConstructor) (kinds : List NominalKind) → AreInhabited cs kinds → (n : ℕ) (t : NominalType) → kind_at kinds n ≡ Some (types.var t) → IsInhabited cs t
kind_inhabited cs [] h n t e = cc
kind_inhabited cs (types.name s ∷ ks) h zero t e = cc
kind_inhabited cs (types.var a ∷ ks) h zero t e = let i : a ≡ t = cc in subst (λ (b : NominalType). IsInhabited cs b) i h.0
kind_inhabited cs (types.name s ∷ ks) h (suc n) t e = kind_inhabited cs ks h n t e
kind_inhabited cs (types.var a ∷ ks) h (suc n) t e = kind_inhabited cs ks h.1 n t e

pub have_inhabitants : (cs : List NominalConstructor) (kinds : List NominalKind) (vs : List (Var × NominalType)) → AreInhabited cs kinds → AreVarsOf kinds vs → HaveInhabitants cs vs
have_inhabitants cs kinds [] h k = tt
have_inhabitants cs kinds (v ∷ vs) h k = (kind_inhabited cs kinds h v.0.num v.1 k.0, have_inhabitants cs kinds vs h k.1)

-- a grounding that gives typed variables their types gives them those of their kinds
pub gives_kinds : (cs : List NominalConstructor) (kinds : List NominalKind) (g : Grounding) (vs : List (Var × NominalType)) → AreVarsOf kinds vs → GivesTypes cs vs g
    → GivesKinds cs kinds (only_vars vs) g
gives_kinds cs kinds g [] k h x m = cc
gives_kinds cs kinds g (v ∷ vs) k h x m =
    elim (or_cases (var_eq x v.0) (has_var x (only_vars vs)) m) [
      | inl e ↦
          let same : HasTypeOf cs (kind_at kinds v.0.num) (g v.0) = subst (λ (o : Option NominalKind). HasTypeOf cs o (g v.0)) (sym k.0) h.0 in
          subst (λ (y : Var). HasTypeOf cs (kind_at kinds y.num) (g y)) (sym (var_same x v.0 e)) same
      | inr e ↦ gives_kinds cs kinds g vs k.1 h.1 x e
    ]
