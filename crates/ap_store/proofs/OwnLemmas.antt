-- Variables of terms themselves, while a term is taken apart.
use Rattle.std.proofs.Common.{◌≡◌, Bool, true, false, true≢false, ◌||◌, List, [], ◌∷◌, ◌++◌, inl, inr, refl, sym, ap, ap₂, ◌∙◌}
use Rattle.ap_defs.specs.Freshness.{var_eq}
use Rattle.ap_defs.specs.Substitution.{occurs, under}
use Rattle.ap_defs.specs.Terms.{NominalTerm, abs, app, name, pair, susp, unit}
use Rattle.ap_defs.specs.Unification.{has_var}
use Rattle.ap_defs.specs.declared.terms.Var.{Var}
use Rattle.ap_theory.proofs.BooleanLemmas.{or_assoc, or_nothing, or_swap}
use Rattle.ap_store.specs.Founds.{IsInner, IsPartStep, bare_term}
use Rattle.ap_store.specs.Own.{occurs_own}
use Rattle.ap_store.specs.declared.bare.Bare.{Bare}
use Rattle.ap_store.specs.declared.occurrences.Step.TheVariants as steps

module _ (y : Var) where
  under_nothing : (t : NominalTerm) → occurs y (under [] t) ≡ occurs y t
  under_nothing unit = refl
  under_nothing (name a) = refl
  under_nothing (pair t u) = ap₂ ◌||◌ (under_nothing t) (under_nothing u)
  under_nothing (app f t) = under_nothing t
  under_nothing (abs a t) = under_nothing t
  under_nothing (susp p x) = refl

  own_last : (bs : List Bare) (b : Bare) → occurs_own y (bs ++ b ∷ []) ≡ (occurs y (bare_term b) || occurs_own y bs)
  own_last [] b = refl
  own_last (c ∷ bs) b = ap (λ (o : Bool). occurs y (bare_term c) || o) (own_last bs b) ∙ or_swap (occurs y (bare_term c)) (occurs y (bare_term b)) (occurs_own y bs)

  vars_last : (vs : List Var) (x : Var) → has_var y (vs ++ x ∷ []) ≡ (has_var y vs || var_eq y x)
  vars_last [] x = or_nothing (var_eq y x)
  vars_last (v ∷ vs) x = ap (λ (o : Bool). var_eq y v || o) (vars_last vs x) ∙ sym (or_assoc (var_eq y v) (has_var y vs) (var_eq y x))

  -- one more waits
  pub one_waits_own : (bs more : List Bare) (b : Bare) → more ≡ bs ++ b ∷ [] → occurs_own y more ≡ (occurs y (bare_term b) || occurs_own y bs)
  one_waits_own bs more b e = ap (occurs_own y) e ∙ own_last bs b

  -- a part is taken apart
  module _ (vs : List Var) (bs : List Bare) (t : NominalTerm) where
    abbrev pub before : Bool
    before = has_var y vs || (occurs y t || occurs_own y bs)

    pub leaf_apart : IsPartStep t steps.Leaf → (has_var y vs || occurs_own y bs) ≡ before
    leaf_apart k = ap (λ (o : Bool). has_var y vs || (o || occurs_own y bs)) (sym (sym (under_nothing t) ∙ k [] y))

    inner_own : (b : Bare) → IsInner t (bare_term b) → occurs y (bare_term b) ≡ occurs y t
    inner_own b (inl k) = ap (occurs y) (sym k.1)
    inner_own b (inr k) = ap (occurs y) (sym k.1)

    pub inner_apart : (b : Bare) (more : List Bare) → IsPartStep t (steps.Inner b) → more ≡ bs ++ b ∷ [] → (has_var y vs || occurs_own y more) ≡ before
    inner_apart b more k e = ap (λ (o : Bool). has_var y vs || o) (one_waits_own bs more b e ∙ ap (λ (o : Bool). o || occurs_own y bs) (inner_own b k))

    pub both_apart : (b d : Bare) (some more : List Bare) → IsPartStep t (steps.Both b d) → some ≡ bs ++ d ∷ [] → more ≡ some ++ b ∷ [] → (has_var y vs || occurs_own y more) ≡ before
    both_apart b d some more k e f =
        let two : occurs_own y more ≡ (occurs y (bare_term b) || (occurs y (bare_term d) || occurs_own y bs)) =
        one_waits_own some more b f ∙ ap (λ (o : Bool). occurs y (bare_term b) || o) (one_waits_own bs some d e) in
        ap (λ (o : Bool). has_var y vs || o)
        (two ∙ sym (or_assoc (occurs y (bare_term b)) (occurs y (bare_term d)) (occurs_own y bs)) ∙ ap (λ (u : NominalTerm). occurs y u || occurs_own y bs) (sym k))

    pub variable_apart : (x : Var) (more : List Var) → IsPartStep t (steps.Variable x) → more ≡ vs ++ x ∷ [] → (has_var y more || occurs_own y bs) ≡ before
    variable_apart x more k e =
        ap (λ (o : Bool). o || occurs_own y bs) (ap (has_var y) e ∙ vars_last vs x) ∙ or_assoc (has_var y vs) (var_eq y x) (occurs_own y bs)
        ∙ ap (λ (u : NominalTerm). has_var y vs || (occurs y u || occurs_own y bs)) (sym k.1)
