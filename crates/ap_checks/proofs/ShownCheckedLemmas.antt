-- The instances of what is shown of an answer whose derivation checks.
use Rattle.std.proofs.Common.{◌≡◌, ◌+◌, ◌<◌, ◌≤◌, ℕ, zero, suc, Bool, true, false, ◌||◌, not, List, [], ◌∷◌, map, refl, sym, ap, ◌∙◌, true≢false, arith}
use Rattle.std.specs.Prelude.{if◌then◌else◌, Option, Some, None}
use Rattle.std.specs.List.{list_all}
use Rattle.ap_defs.specs.declared.terms.Var.{Var}
use Rattle.ap_defs.specs.Answers.{kind_at}
use Rattle.ap_defs.specs.Derivations.{height}
use Rattle.ap_defs.specs.Freshness.{var_eq}
use Rattle.ap_defs.specs.Renaming.{local_vars}
use Rattle.ap_defs.specs.Resolution.{kinds_of}
use Rattle.ap_defs.specs.Types as types
use Rattle.ap_defs.specs.Types.{NominalKind, NominalType}
use Rattle.ap_defs.specs.Unification.{has_var}
use Rattle.ap_program.specs.RawTyping.{AreVarsOf}
use Rattle.ap_theory.proofs.BooleanLemmas.{and_left, and_right, or_if_left, or_if_right}
use Rattle.ap_theory.proofs.TermLemmas.{same_var, var_eq_flip, var_same}
use Rattle.ap_ground.proofs.ShownLemmas.{shown_typed}
use Rattle.ap_checks.specs.Checks.{each_once}
use Rattle.ap_checks.specs.StatementsOnChecks.{CheckedIsDerivableAsShown, DerivableIsDerivableAsShown}
use Rattle.ap_checks.specs.TypeTests.{have_kinds, type_beside}
use Rattle.ap_checks.proofs.CheckedLemmas.{checked_derivable, checks_both, not_holds}

abbrev TypedVars : Type 0
TypedVars = List (Var × NominalType)

-- Kinds by which typed variables, each there once, have their types.
abbrev kind_for : Option NominalType → NominalKind
kind_for None = types.name 0
kind_for (Some t) = types.var t

abbrev kinds_from : TypedVars → ℕ → ℕ → List NominalKind
kinds_from vs m zero = []
kinds_from vs m (suc n) = kind_for (type_beside vs (record { num = m })) ∷ kinds_from vs (suc m) n

kind_from : (vs : TypedVars) (m n i : ℕ) → i < n → kind_at (kinds_from vs m n) i ≡ Some (kind_for (type_beside vs (record { num = m + i })))
kind_from vs m zero i h = absurd (omega (arith, h))
kind_from vs m (suc n) zero h = let e : m ≡ m + zero = omega arith in ap (λ j. Some (kind_for (type_beside vs (record { num = j })))) e
kind_from vs m (suc n) (suc i) h =
    let e : suc m + i ≡ m + suc i = omega arith in
    let l : i < n = omega (arith, h) in
    kind_from vs (suc m) n i l ∙ ap (λ j. Some (kind_for (type_beside vs (record { num = j })))) e

-- a number above those of the variables
abbrev above : TypedVars → ℕ
above [] = zero
above (v ∷ vs) = suc (v.0.num + above vs)

pub beside_among : (vs : TypedVars) (x : Var) (t : NominalType) → type_beside vs x ≡ Some t → has_var x (map (λ v. v.0) vs) ≡ true
beside_among [] x t h = cc
beside_among (v ∷ vs) x t h =
    elim (var_eq v.0 x) as (λ b. var_eq v.0 x ≡ b → (if b then Some v.1 else type_beside vs x) ≡ Some t → (var_eq x v.0 || has_var x (map (λ w. w.0) vs)) ≡ true) [
      | true ↦ λ e k. or_if_left (var_eq x v.0) (has_var x (map (λ w. w.0) vs)) (var_eq_flip x v.0 ∙ e)
      | false ↦ λ e k. or_if_right (var_eq x v.0) (has_var x (map (λ w. w.0) vs)) (beside_among vs x t k)
    ] refl h

-- what stands beside a variable further on stands beside it
beside_next : (v : Var × NominalType) (vs : TypedVars) (x : Var) (t : NominalType) → has_var v.0 (map (λ w. w.0) vs) ≡ false → type_beside vs x ≡ Some t
    → (if var_eq v.0 x then Some v.1 else type_beside vs x) ≡ Some t
beside_next v vs x t other h =
    elim (var_eq v.0 x) as (λ b. var_eq v.0 x ≡ b → (if b then Some v.1 else type_beside vs x) ≡ Some t) [
      | true ↦ λ e. absurd (true≢false (sym (beside_among vs x t h) ∙ ap (λ y. has_var y (map (λ w. w.0) vs)) (sym (var_same v.0 x e)) ∙ other))
      | false ↦ λ e. h
    ] refl

module _ (vs : TypedVars) (n : ℕ) where
  vars_of_kinds : (ws : TypedVars) → each_once ws ≡ true → above ws ≤ n → ((x : Var) (t : NominalType) → type_beside ws x ≡ Some t → type_beside vs x ≡ Some t)
      → AreVarsOf (kinds_from vs 0 n) ws
  vars_of_kinds [] once low h = tt
  vars_of_kinds (w ∷ ws) once low h =
      let apart = not (has_var w.0 (map (λ u. u.0) ws)) in
      let own : type_beside vs w.0 ≡ Some w.1 = h w.0 w.1 (ap (λ (b : Bool). if b then Some w.1 else type_beside ws w.0) (same_var w.0 w.0 refl)) in
      let below : w.0.num < n = omega (arith, low) in
      let zero_more : 0 + w.0.num ≡ w.0.num = omega arith in
      let rest_low : above ws ≤ n = omega (arith, low) in (
        kind_from vs 0 n w.0.num below ∙ ap (λ j. Some (kind_for (type_beside vs (record { num = j })))) zero_more ∙ ap (λ o. Some (kind_for o)) own,
        vars_of_kinds ws (and_right apart (each_once ws) once) rest_low
            (λ x t k. h x t (beside_next w ws x t (not_holds (has_var w.0 (map (λ u. u.0) ws)) (and_left apart (each_once ws) once)) k)),
      )

pub derivable_shown : DerivableIsDerivableAsShown
derivable_shown p typed q fits a once inhabited depth h =
    let n = above a.vars in
    let low : n ≤ n = omega arith in
    shown_typed p typed q fits a (kinds_from a.vars 0 n) (vars_of_kinds a.vars n a.vars once low (λ x t k. k)) inhabited depth h

pub checked_shown : CheckedIsDerivableAsShown
checked_shown p typed q fits a d h inhabited =
    let parts = checks_both p q a d h in
    let binds = have_kinds p.signature.constructors (type_beside a.vars) (kinds_of q.locals) (local_vars 0 q.locals) a.binds in
    let once = and_left (each_once a.vars) (list_all (λ c. has_var c.var (map (λ v. v.0) a.vars)) a.conds) (and_right binds _ parts.0) in
    derivable_shown p typed q fits a once inhabited (height d) (checked_derivable p q a d h)
