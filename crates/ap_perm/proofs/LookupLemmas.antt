-- Terms with every binding carried out.
use Rattle.std.proofs.Common.{subst, ◌≡◌, ◌<◌, ◌≤◌, ℕ, zero, suc, max, true, false, ◌||◌, List, [], ◌∷◌, refl, sym, ap, ap₂, ◌∙◌, inl, inr, arith, append-nil}
use Rattle.std.specs.Prelude.{Option, Some, None, if◌then◌else◌}
use Rattle.ap_defs.specs.Freshness.{var_eq}
use Rattle.ap_defs.specs.Substitution.{Binding, bound_term, occurs, under, ◌:=◌}
use Rattle.ap_defs.specs.Terms.{NominalTerm, abs, act_term, app, name, pair, susp, unit}
use Rattle.ap_defs.specs.declared.terms.Name.{Name}
use Rattle.ap_defs.specs.declared.terms.Swap.{Swap}
use Rattle.ap_defs.specs.declared.terms.Var.{Var}
use Rattle.ap_theory.proofs.BooleanLemmas.{or_cases, or_if_left, or_if_right}
use Rattle.ap_theory.proofs.IdempotenceLemmas.{bound_term_unbound}
use Rattle.ap_theory.proofs.SubstitutionLemmas.{applied_act, applied_local, applied_variables, under_applied}
use Rattle.ap_theory.proofs.TermLemmas.{same_var, var_same}
use Rattle.ap_theory.proofs.VariableLemmas.{each_act, each_pair, each_susp}
use Rattle.ap_theory.specs.Variables.{BindsUnbound, EachVar, IsIdempotent, IsUnbound, is_bound}
use Rattle.ap_theory.specs.Substitutions.{Substitution, applied, bound_or_itself, substitution_of, variables}
use Rattle.ap_perm.specs.Lookups.{Bound, IsRanked, carried_out, depth_of, followed, rank_in, stands_for}

pub occurs_depth : (rank : Var → ℕ) (y : Var) (t : NominalTerm) → occurs y t ≡ true → rank y < depth_of rank t
occurs_depth rank y unit h = cc
occurs_depth rank y (name a) h = cc
occurs_depth rank y (pair t u) h =
    elim (or_cases (occurs y t) (occurs y u) h) [
      | inl k ↦ let l = occurs_depth rank y t k in omega arith
      | inr k ↦ let l = occurs_depth rank y u k in omega arith
    ]
occurs_depth rank y (app f t) h = occurs_depth rank y t h
occurs_depth rank y (abs a t) h = occurs_depth rank y t h
occurs_depth rank y (susp p x) h = let e = ap rank (var_same y x h) in omega arith

pub depth_act : (rank : Var → ℕ) (p : List Swap) (t : NominalTerm) → depth_of rank (act_term p t) ≡ depth_of rank t
depth_act rank p unit = refl
depth_act rank p (name a) = refl
depth_act rank p (pair t u) = ap₂ max (depth_act rank p t) (depth_act rank p u)
depth_act rank p (app f t) = depth_act rank p t
depth_act rank p (abs a t) = depth_act rank p t
depth_act rank p (susp q x) = refl

pub carried_out_act : (bound : Bound) (rank : Var → ℕ) (p : List Swap) (t : NominalTerm) → carried_out bound rank (act_term p t) ≡ act_term p (carried_out bound rank t)
unfolding carried_out
carried_out_act bound rank p t = ap (λ n. applied (stands_for bound n) (act_term p t)) (depth_act rank p t) ∙ applied_act (stands_for bound (depth_of rank t)) p t

follow_alike : (r s : Substitution) (x : Var) (o : Option NominalTerm) → ((t : NominalTerm) → o ≡ Some t → applied r t ≡ applied s t) → followed r x o ≡ followed s x o
follow_alike r s x None f = refl
follow_alike r s x (Some t) f = f t refl

each_applied : (P : Var → Type 0) (s : Substitution) (t : NominalTerm) → ((y : Var) → occurs y t ≡ true → EachVar P (s y)) → EachVar P (applied s t)
each_applied P s unit f = λ y h. cc
each_applied P s (name a) f = λ y h. cc
each_applied P s (pair t u) f =
    each_pair P (applied s t) (applied s u) (each_applied P s t (λ y h. f y (or_if_left (occurs y t) (occurs y u) h))) (each_applied P s u (λ y h. f y (or_if_right (occurs y t) (occurs y u) h)))
each_applied P s (app g t) f = each_applied P s t f
each_applied P s (abs a t) f = each_applied P s t f
each_applied P s (susp p x) f = each_act P p (s x) (f x (same_var x x refl))

follow_each : (P : Var → Type 0) (s : Substitution) (x : Var) (o : Option NominalTerm) → (o ≡ None → P x) → ((t : NominalTerm) → o ≡ Some t → EachVar P (applied s t)) → EachVar P (followed s x o)
follow_each P s x None f g = each_susp P [] x (f refl)
follow_each P s x (Some t) f g = g t refl

module _ (bound : Bound) (rank : Var → ℕ) (ranked : IsRanked bound rank) where
  -- what a variable stands for, once bindings are followed deeper than its rank
  stands_alike : (n m : ℕ) (x : Var) → rank x < n → rank x < m → stands_for bound n x ≡ stands_for bound m x
  stands_alike zero m x h k = absurd (omega arith)
  stands_alike (suc n) zero x h k = absurd (omega arith)
  stands_alike (suc n) (suc m) x h k =
      follow_alike (stands_for bound n) (stands_for bound m) x (bound x) (λ t e. applied_local (stands_for bound n) (stands_for bound m) t (λ y i. let l = ranked x y t e i in stands_alike n m y (omega arith) (omega arith)))

  -- it doesn't matter how deep bindings are followed, once that is deep enough
  pub carried_out_deep : (n : ℕ) (t : NominalTerm) → depth_of rank t ≤ n → applied (stands_for bound n) t ≡ carried_out bound rank t
  unfolding carried_out
  carried_out_deep n t h =
      applied_local (stands_for bound n) (stands_for bound (depth_of rank t)) t
      (λ y i. let l = occurs_depth rank y t i in stands_alike n (depth_of rank t) y (omega arith) (omega arith))

  pub carried_out_pair : (t u : NominalTerm) → carried_out bound rank (pair t u) ≡ pair (carried_out bound rank t) (carried_out bound rank u)
  carried_out_pair t u =
      let n : ℕ = max (depth_of rank t) (depth_of rank u) in
      sym (carried_out_deep n (pair t u) (omega arith)) ∙ ap₂ pair (carried_out_deep n t (omega arith)) (carried_out_deep n u (omega arith))

  pub carried_out_app : (f : ℕ) (t : NominalTerm) → carried_out bound rank (app f t) ≡ app f (carried_out bound rank t)
  unfolding carried_out
  carried_out_app f t = refl

  pub carried_out_abs : (a : Name) (t : NominalTerm) → carried_out bound rank (abs a t) ≡ abs a (carried_out bound rank t)
  unfolding carried_out
  carried_out_abs a t = refl

  pub carried_out_name : (a : Name) → carried_out bound rank (name a) ≡ name a
  unfolding carried_out
  carried_out_name a = refl

  pub carried_out_unit : carried_out bound rank unit ≡ unit
  unfolding carried_out
  carried_out_unit = refl

  pub carried_out_unbound : (p : List Swap) (x : Var) → bound x ≡ None → carried_out bound rank (susp p x) ≡ susp p x
  unfolding carried_out
  carried_out_unbound p x e = ap (λ o. act_term p (followed (stands_for bound (rank x)) x o)) e ∙ ap (λ q. susp q x) (append-nil p)

  pub depth_ranked : (x : Var) (t : NominalTerm) → bound x ≡ Some t → depth_of rank t ≤ rank x
  depth_ranked x t e = deepest t (λ y i. ranked x y t e i)
    where
      deepest : (u : NominalTerm) → ((y : Var) → occurs y u ≡ true → rank y < rank x) → depth_of rank u ≤ rank x
      deepest unit f = omega arith
      deepest (name a) f = omega arith
      deepest (pair u v) f =
          let l = deepest u (λ y i. f y (or_if_left (occurs y u) (occurs y v) i)) in
          let m = deepest v (λ y i. f y (or_if_right (occurs y u) (occurs y v) i)) in
          omega arith
      deepest (app g u) f = deepest u f
      deepest (abs a u) f = deepest u f
      deepest (susp p y) f = let l = f y (same_var y y refl) in omega arith

  pub carried_out_bound : (p : List Swap) (x : Var) (t : NominalTerm) → bound x ≡ Some t → carried_out bound rank (susp p x) ≡ act_term p (carried_out bound rank t)
  unfolding carried_out
  carried_out_bound p x t e =
      ap (λ o. act_term p (followed (stands_for bound (rank x)) x o)) e ∙ ap (act_term p) (carried_out_deep (rank x) t (depth_ranked x t e))

  abbrev IsFree : Var → Type 0
  IsFree x = bound x ≡ None

  stands_each : (n : ℕ) (x : Var) → rank x < n → EachVar IsFree (stands_for bound n x)
  stands_each zero x h = absurd (omega arith)
  stands_each (suc n) x h =
      follow_each IsFree (stands_for bound n) x (bound x) (λ e. e) (λ t e. each_applied IsFree (stands_for bound n) t (λ y i. let l = ranked x y t e i in stands_each n y (omega arith)))

  -- no bound variable is left
  pub carried_out_each : (t : NominalTerm) → EachVar IsFree (carried_out bound rank t)
  unfolding carried_out
  carried_out_each t = each_applied IsFree (stands_for bound (depth_of rank t)) t (λ y i. stands_each (depth_of rank t) y (occurs_depth rank y t i))

-- Lists of bindings that are idempotent.
bound_is_bound : (bs : List Binding) (x : Var) (t : NominalTerm) → bound_term bs x ≡ Some t → is_bound x bs ≡ true
bound_is_bound [] x t h = cc
bound_is_bound ((y := u) ∷ bs) x t h =
    elim (var_eq x y) as (λ v. (if v then Some u else bound_term bs x) ≡ Some t → (v || is_bound x bs) ≡ true) [ true ↦ λ k. refl | false ↦ λ k. bound_is_bound bs x t k ] h

bound_each : (cs bs : List Binding) (x : Var) (t : NominalTerm) → BindsUnbound cs bs → bound_term bs x ≡ Some t → EachVar (IsUnbound cs) t
bound_each cs [] x t h e = cc
bound_each cs ((y := u) ∷ bs) x t h e =
    elim (var_eq x y) as (λ v. (if v then Some u else bound_term bs x) ≡ Some t → EachVar (IsUnbound cs) t) [
      | true ↦ λ k. subst (EachVar (IsUnbound cs)) (some_same k) h.0
      | false ↦ λ k. bound_each cs bs x t h.1 k
    ] e
  where
    some_same : {v w : NominalTerm} → Some v ≡ Some w → v ≡ w
    some_same k = cc

pub idempotent_ranked : (bs : List Binding) → IsIdempotent bs → IsRanked (bound_term bs) (rank_in bs)
idempotent_ranked bs h x y t e i = rw (bound_is_bound bs x t e, bound_each bs bs x t h.0 e y i) (omega arith)

unbound_stands : (bs : List Binding) (n : ℕ) (x : Var) → IsUnbound bs x → stands_for (bound_term bs) n x ≡ susp [] x
unbound_stands bs zero x h = refl
unbound_stands bs (suc n) x h = ap (followed (stands_for (bound_term bs) n) x) (bound_term_unbound bs x h)

stands_under : (bs : List Binding) (n : ℕ) (x : Var) (o : Option NominalTerm) → ((t : NominalTerm) → o ≡ Some t → EachVar (IsUnbound bs) t)
    → followed (stands_for (bound_term bs) n) x o ≡ bound_or_itself x o
stands_under bs n x None f = refl
stands_under bs n x (Some t) f = applied_local (stands_for (bound_term bs) n) variables t (λ y i. unbound_stands bs n y (f t refl y i)) ∙ applied_variables t

pub carried_out_under : (bs : List Binding) (rank : Var → ℕ) → IsIdempotent bs → IsRanked (bound_term bs) rank → (t : NominalTerm) → carried_out (bound_term bs) rank t ≡ under bs t
carried_out_under bs rank h ranked t =
    sym (carried_out_deep (bound_term bs) rank ranked (suc (depth_of rank t)) t (omega arith))
    ∙ applied_local (stands_for (bound_term bs) (suc (depth_of rank t))) (substitution_of bs) t (λ x i. stands_under bs (depth_of rank t) x (bound_term bs x) (λ u e. bound_each bs bs x u h.0 e))
    ∙ sym (under_applied bs t)
