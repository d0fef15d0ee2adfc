-- One more binding, carried out in the others.
use Rattle.std.proofs.Common.{◌≡◌, Bool, true, false, ◌||◌, List, [], ◌∷◌, map, refl, sym, ap, ap₂, ◌∙◌, inl, inr}
use Rattle.std.specs.Prelude.{◌≢◌, Option, Some, None, if◌then◌else◌}
use Rattle.ap_defs.specs.Freshness.{var_eq}
use Rattle.ap_defs.specs.Substitution.{Binding, bound_term, moved, occurs, put, put_binding, under, ◌:=◌}
use Rattle.ap_defs.specs.Terms.{NominalTerm, abs, act_term, app, name, pair, susp, unit}
use Rattle.ap_defs.specs.declared.terms.Swap.{Swap}
use Rattle.ap_defs.specs.declared.terms.Var.{Var}
use Rattle.ap_theory.proofs.BooleanLemmas.{or_cases, or_if_left, or_if_right}
use Rattle.ap_theory.proofs.IdempotenceLemmas.{bound_term_unbound}
use Rattle.ap_theory.proofs.SubstitutionLemmas.{put_act}
use Rattle.ap_theory.proofs.TermLemmas.{occurs_act, var_eq_flip, var_same}
use Rattle.ap_theory.proofs.VariableLemmas.{each_put, not_var, occurs_apart}
use Rattle.ap_theory.specs.Variables.{BindsOnce, BindsUnbound, EachVar, IsIdempotent, IsUnbound, is_bound}

abbrev pub bound_in : Var → NominalTerm → List Binding → List Binding
bound_in x v bs = (x := v) ∷ map (put_binding x v) bs

module _ (x : Var) (v : NominalTerm) where
  pub is_bound_put : (y : Var) (bs : List Binding) → is_bound y (map (put_binding x v) bs) ≡ is_bound y bs
  is_bound_put y [] = refl
  is_bound_put y ((z := t) ∷ bs) = ap (λ b. var_eq y z || b) (is_bound_put y bs)

  pub unbound_after : (bs : List Binding) (y : Var) → IsUnbound bs y → x ≢ y → IsUnbound (bound_in x v bs) y
  unbound_after bs y h n = ap₂ ◌||◌ (var_eq_flip y x ∙ not_var x y n) (is_bound_put y bs ∙ h)

  binds_unbound_put : (bs cs ds : List Binding) → ((y : Var) → IsUnbound bs y → x ≢ y → IsUnbound ds y) → EachVar (IsUnbound ds) v → BindsUnbound bs cs
      → BindsUnbound ds (map (put_binding x v) cs)
  binds_unbound_put bs [] ds other new h = tt
  binds_unbound_put bs ((y := t) ∷ cs) ds other new h = (each_put (IsUnbound bs) (IsUnbound ds) x v other new t h.0, binds_unbound_put bs cs ds other new h.1)

  binds_once_put : (bs : List Binding) → BindsOnce bs → BindsOnce (map (put_binding x v) bs)
  binds_once_put [] h = tt
  binds_once_put ((y := t) ∷ bs) h = (is_bound_put y bs ∙ h.0, binds_once_put bs h.1)

  pub idempotent_bind : (bs : List Binding) → IsUnbound bs x → EachVar (IsUnbound bs) v → occurs x v ≡ false → IsIdempotent bs → IsIdempotent (bound_in x v bs)
  idempotent_bind bs u k e h =
      let new : EachVar (IsUnbound (bound_in x v bs)) v = λ y o. unbound_after bs y (k y o) (occurs_apart x y v e o) in
      ((new, binds_unbound_put bs bs (bound_in x v bs) (unbound_after bs) new h.0), (is_bound_put x bs ∙ u, binds_once_put bs h.1))

  moved_put : (p : List Swap) (y : Var) (bs : List Binding) → var_eq x y ≡ false
      → under (map (put_binding x v) bs) (susp p y) ≡ put x v (under bs (susp p y))
  moved_put p y [] e = sym (ap (λ (b : Bool). if b then act_term p v else susp p y) e)
  moved_put p y ((z := t) ∷ bs) e =
      elim (var_eq y z) as (λ b. var_eq y z ≡ b → under (map (put_binding x v) ((z := t) ∷ bs)) (susp p y) ≡ put x v (under ((z := t) ∷ bs) (susp p y))) [
        | true ↦ λ k. rw k (sym (put_act x v p t))
        | false ↦ λ k. rw k (moved_put p y bs e)
      ] refl

  -- a term under the new bindings is the term under the old ones, with v for x
  pub under_bind : (bs : List Binding) → IsUnbound bs x → (t : NominalTerm) → under (bound_in x v bs) t ≡ put x v (under bs t)
  under_bind bs u unit = refl
  under_bind bs u (name a) = refl
  under_bind bs u (pair t w) = ap₂ pair (under_bind bs u t) (under_bind bs u w)
  under_bind bs u (app f t) = ap (app f) (under_bind bs u t)
  under_bind bs u (abs a t) = ap (abs a) (under_bind bs u t)
  under_bind bs u (susp p y) =
      elim (var_eq y x) as (λ b. var_eq y x ≡ b → under (bound_in x v bs) (susp p y) ≡ put x v (under bs (susp p y))) [
        | true ↦ λ e. rw (e, bound_term_unbound bs y (ap (λ z. is_bound z bs) (var_same y x e) ∙ u), var_eq_flip x y ∙ e) refl
        | false ↦ λ e. rw e (moved_put p y bs (var_eq_flip x y ∙ e))
      ] refl

pub occurs_moved : (x z : Var) (p q : List Swap) (o : Option NominalTerm) → occurs x (moved p z o) ≡ occurs x (moved q z o)
occurs_moved x z p q None = refl
occurs_moved x z p q (Some t) = occurs_act x p t ∙ sym (occurs_act x q t)

-- what occurs in what a variable of a term stands for occurs in what the term stands for
pub occurs_through : (bs : List Binding) (x y : Var) (t : NominalTerm) → occurs y t ≡ true → occurs x (under bs (susp [] y)) ≡ true → occurs x (under bs t) ≡ true
occurs_through bs x y unit h k = cc
occurs_through bs x y (name a) h k = cc
occurs_through bs x y (pair t u) h k =
    elim (or_cases (occurs y t) (occurs y u) h) [
      | inl i ↦ or_if_left (occurs x (under bs t)) (occurs x (under bs u)) (occurs_through bs x y t i k)
      | inr i ↦ or_if_right (occurs x (under bs t)) (occurs x (under bs u)) (occurs_through bs x y u i k)
    ]
occurs_through bs x y (app f t) h k = occurs_through bs x y t h k
occurs_through bs x y (abs a t) h k = occurs_through bs x y t h k
occurs_through bs x y (susp p z) h k =
    occurs_moved x z p [] (bound_term bs z) ∙ ap (λ w. occurs x (under bs (susp [] w))) (sym (var_same y z h)) ∙ k
