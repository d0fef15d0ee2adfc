-- Steps of unification, where equations and problems are seen under the bindings.
use Rattle.std.proofs.Common.{◌≡◌, Bool, true, false, List, [], ◌∷◌, ◌++◌, map, refl, sym, ap, ap₂, ◌∙◌}
use Rattle.std.proofs.lemmas.List.{append-nil, map-append}
use Rattle.std.specs.Prelude.{if◌then◌else◌, Some}
use Rattle.ap_defs.specs.Freshness.{var_eq}
use Rattle.ap_defs.specs.Substitution.{Binding, Equation, Problem, bound_term, moved, put, put_binding, put_equation, put_problem, under, ◌#◌, ◌:=◌, ◌≐◌}
use Rattle.ap_defs.specs.Terms.{NominalTerm, abs, act_term, app, name, pair, susp, unit}
use Rattle.ap_defs.specs.Unification.{Stage, apply_rule, bind_in, equations_of, first_stage, fresh_for, next, reduce_all, replace}
use Rattle.ap_defs.specs.declared.terms.Name.{Name}
use Rattle.ap_defs.specs.declared.terms.Swap.{Swap}
use Rattle.ap_defs.specs.declared.terms.Var.{Var}
use Rattle.ap_theory.proofs.IdempotenceLemmas.{bound_term_unbound, under_under}
use Rattle.ap_theory.proofs.SubstitutionLemmas.{put_act}
use Rattle.ap_theory.proofs.TermLemmas.{var_eq_flip, var_same}
use Rattle.ap_theory.specs.Variables.{IsIdempotent, IsUnbound, is_bound}
use Rattle.ap_rules.specs.Runs.{equation_under, paired, problem_under, stage_under}

-- a new binding, carried out in the old ones
abbrev pub bound_in : Var → NominalTerm → List Binding → List Binding
bound_in x v bs = (x := v) ∷ map (put_binding x v) bs

module _ (x : Var) (v : NominalTerm) where
  moved_put : (p : List Swap) (y : Var) (bs : List Binding) → var_eq x y ≡ false
      → moved p y (bound_term (map (put_binding x v) bs) y) ≡ put x v (moved p y (bound_term bs y))
  moved_put p y [] e = sym (ap (λ (b : Bool). if b then act_term p v else susp p y) e)
  moved_put p y ((z := t) ∷ bs) e =
      elim (var_eq y z) as (λ b. moved p y (if b then Some (put x v t) else bound_term (map (put_binding x v) bs) y) ≡ put x v (moved p y (if b then Some t else bound_term bs y))) [
        | true ↦ sym (put_act x v p t)
        | false ↦ moved_put p y bs e
      ]

  -- a term under the new bindings is the term under the old ones, with v for x
  pub under_bind : (bs : List Binding) → IsUnbound bs x → (t : NominalTerm) → under (bound_in x v bs) t ≡ put x v (under bs t)
  under_bind bs u unit = refl
  under_bind bs u (name a) = refl
  under_bind bs u (pair t w) = ap₂ pair (under_bind bs u t) (under_bind bs u w)
  under_bind bs u (app f t) = ap (app f) (under_bind bs u t)
  under_bind bs u (abs a t) = ap (abs a) (under_bind bs u t)
  under_bind bs u (susp p y) =
      elim (var_eq y x) as (λ b. var_eq y x ≡ b → moved p y (if b then Some v else bound_term (map (put_binding x v) bs) y) ≡ put x v (moved p y (bound_term bs y))) [
        | true ↦ λ e. sym (ap (λ o. put x v (moved p y o)) (bound_term_unbound bs y (ap (λ z. is_bound z bs) (var_same y x e) ∙ u)) ∙ ap (λ (b : Bool). if b then act_term p v else susp p y) (var_eq_flip x y ∙ e))
        | false ↦ λ e. moved_put p y bs (var_eq_flip x y ∙ e)
      ] refl

  pub equations_put : (bs : List Binding) → IsUnbound bs x → (es : List Equation)
      → map (put_equation x v) (map (equation_under bs) es) ≡ map (equation_under (bound_in x v bs)) es
  equations_put bs u [] = refl
  equations_put bs u ((t ≐ w) ∷ es) = ap₂ ◌∷◌ (ap₂ ◌≐◌ (sym (under_bind bs u t)) (sym (under_bind bs u w))) (equations_put bs u es)

  problems_put : (bs : List Binding) → IsUnbound bs x → (ps : List Problem)
      → map (put_problem x v) (map (problem_under bs) ps) ≡ map (problem_under (bound_in x v bs)) ps
  problems_put bs u [] = refl
  problems_put bs u ((a # t) ∷ ps) = ap₂ ◌∷◌ (ap (λ z. a # z) (sym (under_bind bs u t))) (problems_put bs u ps)

  -- a binding changes what equations and problems stand for, and not how they are kept
  pub bind_in_under : (bs : List Binding) → IsUnbound bs x → (es : List Equation) (ps : List Problem)
      → bind_in x v (map (equation_under bs) es) (map (problem_under bs) ps) bs ≡ stage_under (bound_in x v bs) es ps
  bind_in_under bs u es ps =
      ap₂ (λ fs qs. let s : Stage = record { equations = fs; problems = qs; bindings = bound_in x v bs } in s) (equations_put bs u es) (problems_put bs u ps)

-- the first stage of a run
equations_paired : (bs : List Binding) (ts us : List NominalTerm) → equations_of bs ts us ≡ map (equation_under bs) (paired ts us)
equations_paired bs [] us = refl
equations_paired bs (t ∷ ts) [] = refl
equations_paired bs (t ∷ ts) (u ∷ us) = ap (λ es. (under bs t ≐ under bs u) ∷ es) (equations_paired bs ts us)

pub first_under : (bs : List Binding) (ts us : List NominalTerm) → first_stage bs ts us ≡ stage_under bs (paired ts us) []
first_under bs ts us = ap (λ es. let s : Stage = record { equations = es; problems = []; bindings = bs } in s) (equations_paired bs ts us)

module _ (bs : List Binding) (es : List Equation) (ps : List Problem) where
  -- an equation is replaced by others and by problems
  pub replaced : (new : List Equation) (qs : List Problem)
      → next (stage_under bs (new ++ es) (ps ++ qs)) ≡ apply_rule (replace (map (equation_under bs) new) (map (problem_under bs) qs)) (map (equation_under bs) es) (map (problem_under bs) ps) bs
  replaced new qs = ap₂ (λ fs rs. next (record { equations = fs; problems = rs; bindings = bs })) (map-append (equation_under bs) new es) (map-append (problem_under bs) ps qs)

  -- or dropped
  pub dropped : next (stage_under bs es ps) ≡ apply_rule (replace [] []) (map (equation_under bs) es) (map (problem_under bs) ps) bs
  dropped = ap (λ rs. next (record { equations = map (equation_under bs) es; problems = rs; bindings = bs })) (sym (append-nil (map (problem_under bs) ps)))

-- problems of an unbound variable
pub names_under : (bs : List Binding) (x : Var) → IsUnbound bs x → (as' : List Name) → map (problem_under bs) (map (fresh_for x) as') ≡ map (fresh_for x) as'
names_under bs x h [] = refl
names_under bs x h (a ∷ as') = ap₂ ◌∷◌ (ap (λ o. a # moved [] x o) (bound_term_unbound bs x h)) (names_under bs x h as')

-- problems reduce to the same conditions, whether they are seen under the bindings or not
pub reduce_all_under : (bs : List Binding) → IsIdempotent bs → (ps : List Problem) → reduce_all bs (map (problem_under bs) ps) ≡ reduce_all bs ps
reduce_all_under bs h [] = refl
reduce_all_under bs h ((a # t) ∷ ps) = rw (under_under bs h t, reduce_all_under bs h ps) refl
