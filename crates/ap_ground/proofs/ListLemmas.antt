-- The names and variables of terms, as lists, and lists in which each stands once.
use Rattle.std.proofs.Common.{◌≡◌, Bool, true, false, ◌&&◌, ◌||◌, not, List, [], ◌∷◌, refl, sym, ap, ◌∙◌}
use Rattle.std.specs.Prelude.{if◌then◌else◌}
use Rattle.ap_defs.specs.Freshness.{var_eq}
use Rattle.ap_defs.specs.GroundProofs.{AreDifferent}
use Rattle.ap_defs.specs.Occurrences.{names_then}
use Rattle.ap_defs.specs.Permutations.{has_name, name_eq, names_of}
use Rattle.ap_defs.specs.Printing.{first_names, first_vars}
use Rattle.ap_defs.specs.Terms.{NominalTerm, abs, app, name, pair, susp, unit}
use Rattle.ap_defs.specs.Unification.{has_var, vars_then}
use Rattle.ap_defs.specs.declared.terms.Name.{Name}
use Rattle.ap_defs.specs.declared.terms.Var.{Var}
use Rattle.ap_theory.proofs.BooleanLemmas.{and_false, or_and_absorb, or_assoc, or_nothing}
use Rattle.ap_theory.proofs.DisagreementLemmas.{has_name-append}
use Rattle.ap_theory.proofs.PermutationLemmas.{name_eq_itself, name_eq_same}
use Rattle.ap_theory.proofs.TermLemmas.{var_same}

-- what stands in a term and the names after it
pub has_names_then : (b : Name) (t : NominalTerm) (as' : List Name) → has_name b (names_then t as') ≡ (has_name b (names_then t []) || has_name b as')
has_names_then b unit as' = refl
has_names_then b (name a) as' = ap (λ v. v || has_name b as') (sym (or_nothing (name_eq b a)))
has_names_then b (pair t u) as' =
    has_names_then b t (names_then u as') ∙ ap (λ v. has_name b (names_then t []) || v) (has_names_then b u as')
    ∙ sym (ap (λ v. v || has_name b as') (has_names_then b t (names_then u [])) ∙ or_assoc (has_name b (names_then t [])) (has_name b (names_then u [])) (has_name b as'))
has_names_then b (app f t) as' = has_names_then b t as'
has_names_then b (abs a t) as' =
    ap (λ v. name_eq b a || v) (has_names_then b t as') ∙ sym (or_assoc (name_eq b a) (has_name b (names_then t [])) (has_name b as'))
has_names_then b (susp p x) as' =
    has_name-append b (names_of p) as' ∙ ap (λ v. v || has_name b as') (sym (has_name-append b (names_of p) [] ∙ or_nothing (has_name b (names_of p))))

pub has_vars_then : (x : Var) (t : NominalTerm) (xs : List Var) → has_var x (vars_then t xs) ≡ (has_var x (vars_then t []) || has_var x xs)
has_vars_then x unit xs = refl
has_vars_then x (name a) xs = refl
has_vars_then x (pair t u) xs =
    has_vars_then x t (vars_then u xs) ∙ ap (λ v. has_var x (vars_then t []) || v) (has_vars_then x u xs)
    ∙ sym (ap (λ v. v || has_var x xs) (has_vars_then x t (vars_then u [])) ∙ or_assoc (has_var x (vars_then t [])) (has_var x (vars_then u [])) (has_var x xs))
has_vars_then x (app f t) xs = has_vars_then x t xs
has_vars_then x (abs a t) xs = has_vars_then x t xs
has_vars_then x (susp p y) xs = ap (λ v. v || has_var x xs) (sym (or_nothing (var_eq x y)))

-- a test that is no more asked where another one is true
once_more : (x y z : Bool) → (x ≡ true → z ≡ false) → (x || (y && not (x || z))) ≡ ((x || y) && not z)
once_more true y z h = sym (ap not (h refl))
once_more false y z h = refl

pub has_first_names : (seen as' : List Name) (b : Name) → has_name b (first_names seen as') ≡ (has_name b as' && not (has_name b seen))
has_first_names seen [] b = refl
has_first_names seen (a ∷ as') b =
    elim (has_name a seen) as (λ v. has_name a seen ≡ v
    → has_name b (if v then first_names seen as' else (a ∷ first_names (a ∷ seen) as')) ≡ ((name_eq b a || has_name b as') && not (has_name b seen))) [
      | true ↦ λ e. has_first_names seen as' b
          ∙ or_and_absorb (name_eq b a) (has_name b as') (not (has_name b seen)) (λ h. ap (λ c. not (has_name c seen)) (name_eq_same b a h) ∙ ap not e)
      | false ↦ λ e. ap (λ v. name_eq b a || v) (has_first_names (a ∷ seen) as' b)
          ∙ once_more (name_eq b a) (has_name b as') (has_name b seen) (λ h. ap (λ c. has_name c seen) (name_eq_same b a h) ∙ e)
    ] refl

pub first_names_different : (seen as' : List Name) → AreDifferent (first_names seen as')
first_names_different seen [] = tt
first_names_different seen (a ∷ as') =
    elim (has_name a seen) as (λ v. AreDifferent (if v then first_names seen as' else (a ∷ first_names (a ∷ seen) as'))) [
      | true ↦ first_names_different seen as'
      | false ↦ (
        has_first_names (a ∷ seen) as' a ∙ ap (λ v. has_name a as' && not (v || has_name a seen)) (name_eq_itself a) ∙ and_false (has_name a as'),
        first_names_different (a ∷ seen) as',
      )
    ]

pub has_first_vars : (seen xs : List Var) (y : Var) → has_var y (first_vars seen xs) ≡ (has_var y xs && not (has_var y seen))
has_first_vars seen [] y = refl
has_first_vars seen (x ∷ xs) y =
    elim (has_var x seen) as (λ v. has_var x seen ≡ v
    → has_var y (if v then first_vars seen xs else (x ∷ first_vars (x ∷ seen) xs)) ≡ ((var_eq y x || has_var y xs) && not (has_var y seen))) [
      | true ↦ λ e. has_first_vars seen xs y
          ∙ or_and_absorb (var_eq y x) (has_var y xs) (not (has_var y seen)) (λ h. ap (λ z. not (has_var z seen)) (var_same y x h) ∙ ap not e)
      | false ↦ λ e. ap (λ v. var_eq y x || v) (has_first_vars (x ∷ seen) xs y)
          ∙ once_more (var_eq y x) (has_var y xs) (has_var y seen) (λ h. ap (λ z. has_var z seen) (var_same y x h) ∙ e)
    ] refl
