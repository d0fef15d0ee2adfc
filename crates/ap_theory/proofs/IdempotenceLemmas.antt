-- Unification keeps bindings idempotent and extends them, and its result is itself a solution.
use Rattle.std.proofs.Common.{◌≡◌, ◌≢◌, ◌+◌, ℕ, zero, suc, Bool, true, false, ◌||◌, List, [], ◌∷◌, ◌++◌, map, refl, sym, ap, ap₂, ◌∙◌}
use Rattle.std.specs.Prelude.{if◌then◌else◌, Option, Some, None}
use Rattle.ap_defs.specs.Freshness.{Conds, add_cond, add_conds, both, cond_before, cond_eq, reduce, var_eq}
use Rattle.ap_defs.specs.Permutations.{name_eq}
use Rattle.ap_defs.specs.Substitution.{Binding, Equation, Problem, bound_term, moved, occurs, put, put_binding, under, ◌#◌, ◌:=◌, ◌≐◌}
use Rattle.ap_defs.specs.Terms.{NominalTerm, abs, act_term, app, name, pair, susp, unit}
use Rattle.ap_defs.specs.Unification.{Ending, Rule, Stage, Unified, ending_after, apply_rule, bind, clash, ending, equations_of, finish, first_stage, problem_of, reduce_all, replace, rule, run, size, solved, steps_for, unfinished, unify, unsolvable, unified_under}
use Rattle.ap_defs.specs.declared.terms.Cond.{Cond}
use Rattle.ap_defs.specs.declared.terms.Name.{Name}
use Rattle.ap_defs.specs.declared.terms.Swap.{Swap}
use Rattle.ap_defs.specs.declared.terms.Var.{Var}
use Rattle.ap_theory.specs.Substitutions.{bound_or_itself, substitution_of, variables}
use Rattle.ap_theory.specs.Variables.{BindsOnce, BindsUnbound, EachCond, EachVar, IsIdempotent, IsUnbound, is_bound}
use Rattle.ap_theory.proofs.BooleanLemmas.{or_false, or_if_right}
use Rattle.ap_theory.proofs.SubstitutionLemmas.{applied_local, applied_variables, put_act, under_applied}
use Rattle.ap_theory.proofs.TermLemmas.{var_eq_flip, var_same}
use Rattle.ap_theory.proofs.TerminationLemmas.{Shrinks, rule_shrinks}
use Rattle.ap_theory.proofs.VariableLemmas.{EachEquation, EachProblem, each_act, each_equation-append, each_equation_put, each_left, each_pair, each_put, each_right, each_susp, not_var, occurs_apart, susp_each}

is_bound_put : (x : Var) (v : NominalTerm) (y : Var) (bs : List Binding) → is_bound y (map (put_binding x v) bs) ≡ is_bound y bs
is_bound_put x v y [] = refl
is_bound_put x v y ((z := t) ∷ bs) = ap (λ b. var_eq y z || b) (is_bound_put x v y bs)

pub bound_term_unbound : (bs : List Binding) (x : Var) → IsUnbound bs x → bound_term bs x ≡ None
bound_term_unbound [] x h = refl
bound_term_unbound ((y := t) ∷ bs) x h =
    let k = or_false (var_eq x y) (is_bound x bs) h in
    ap (λ (b : Bool). if b then Some t else bound_term bs x) k.0 ∙ bound_term_unbound bs x k.1

-- bindings leave a term of unbound variables
pub under_unbound : (bs : List Binding) (t : NominalTerm) → EachVar (IsUnbound bs) t → under bs t ≡ t
under_unbound bs t h =
    under_applied bs t
    ∙ applied_local (substitution_of bs) variables t (λ x o. ap (bound_or_itself x) (bound_term_unbound bs x (h x o)))
    ∙ applied_variables t

moved_each : (bs cs : List Binding) (p : List Swap) (x : Var) → BindsUnbound bs cs → (IsUnbound cs x → IsUnbound bs x)
    → EachVar (IsUnbound bs) (moved p x (bound_term cs x))
moved_each bs [] p x h k = each_susp (IsUnbound bs) p x (k refl)
moved_each bs ((y := t) ∷ cs) p x h k =
    elim (var_eq x y) as (λ b. var_eq x y ≡ b → EachVar (IsUnbound bs) (moved p x (if b then Some t else bound_term cs x))) [
      | true ↦ λ e. each_act (IsUnbound bs) p t h.0
      | false ↦ λ e. moved_each bs cs p x h.1 (λ u. k (ap₂ ◌||◌ e u))
    ] refl

-- what idempotent bindings make of a term has unbound variables only
pub under_each : (bs : List Binding) → IsIdempotent bs → (t : NominalTerm) → EachVar (IsUnbound bs) (under bs t)
under_each bs h unit = λ x o. cc
under_each bs h (name a) = λ x o. cc
under_each bs h (pair t u) = each_pair (IsUnbound bs) (under bs t) (under bs u) (under_each bs h t) (under_each bs h u)
under_each bs h (app f t) = under_each bs h t
under_each bs h (abs a t) = under_each bs h t
under_each bs h (susp p x) = moved_each bs bs p x h.0 (λ u. u)

pub under_under : (bs : List Binding) → IsIdempotent bs → (t : NominalTerm) → under bs (under bs t) ≡ under bs t
under_under bs h t = under_unbound bs (under bs t) (under_each bs h t)

-- A new binding, carried out in the old ones.
abbrev bound_in : Var → NominalTerm → List Binding → List Binding
bound_in x v bs = (x := v) ∷ map (put_binding x v) bs

module _ (x : Var) (v : NominalTerm) where
  unbound_after : (bs : List Binding) (y : Var) → IsUnbound bs y → x ≢ y → IsUnbound (bound_in x v bs) y
  unbound_after bs y h n = ap₂ ◌||◌ (var_eq_flip y x ∙ not_var x y n) (is_bound_put x v y bs ∙ h)

  BindsUnbound_put : (bs cs ds : List Binding) → ((y : Var) → IsUnbound bs y → x ≢ y → IsUnbound ds y) → EachVar (IsUnbound ds) v → BindsUnbound bs cs
      → BindsUnbound ds (map (put_binding x v) cs)
  BindsUnbound_put bs [] ds other new h = tt
  BindsUnbound_put bs ((y := t) ∷ cs) ds other new h = (each_put (IsUnbound bs) (IsUnbound ds) x v other new t h.0, BindsUnbound_put bs cs ds other new h.1)

  BindsOnce_put : (bs : List Binding) → BindsOnce bs → BindsOnce (map (put_binding x v) bs)
  BindsOnce_put [] h = tt
  BindsOnce_put ((y := t) ∷ bs) h = (is_bound_put x v y bs ∙ h.0, BindsOnce_put bs h.1)

  new_unbound : (bs : List Binding) → EachVar (IsUnbound bs) v → occurs x v ≡ false → EachVar (IsUnbound (bound_in x v bs)) v
  new_unbound bs h e y o = unbound_after bs y (h y o) (occurs_apart x y v e o)

  idempotent_bind : (bs : List Binding) → IsUnbound bs x → EachVar (IsUnbound bs) v → occurs x v ≡ false → IsIdempotent bs → IsIdempotent (bound_in x v bs)
  idempotent_bind bs u k e h =
      let new = new_unbound bs k e in
      ((new, BindsUnbound_put bs bs (bound_in x v bs) (unbound_after bs) new h.0), (is_bound_put x v x bs ∙ u, BindsOnce_put bs h.1))

  moved_put : (p : List Swap) (y : Var) (bs : List Binding) → var_eq x y ≡ false
      → moved p y (bound_term (map (put_binding x v) bs) y) ≡ put x v (moved p y (bound_term bs y))
  moved_put p y [] e = sym (ap (λ (b : Bool). if b then act_term p v else susp p y) e)
  moved_put p y ((z := t) ∷ bs) e =
      elim (var_eq y z) as (λ b. moved p y (if b then Some (put x v t) else bound_term (map (put_binding x v) bs) y) ≡ put x v (moved p y (if b then Some t else bound_term bs y))) [
        | true ↦ sym (put_act x v p t)
        | false ↦ moved_put p y bs e
      ]

  -- a term under the new bindings is the term under the old ones, with v for x
  under_bind : (bs : List Binding) → IsUnbound bs x → (t : NominalTerm) → under (bound_in x v bs) t ≡ put x v (under bs t)
  under_bind bs u unit = refl
  under_bind bs u (name a) = refl
  under_bind bs u (pair t w) = ap₂ pair (under_bind bs u t) (under_bind bs u w)
  under_bind bs u (app f t) = ap (app f) (under_bind bs u t)
  under_bind bs u (abs a t) = ap (abs a) (under_bind bs u t)
  under_bind bs u (susp p y) =
      elim (var_eq y x) as (λ b. var_eq y x ≡ b → moved p y (if b then Some v else bound_term (map (put_binding x v) bs) y) ≡ put x v (moved p y (bound_term bs y))) [
        | true ↦ λ e. sym (ap (λ o. put x v (moved p y o)) (bound_term_unbound bs y (ap (λ z. is_bound z bs) (var_same y x e) ∙ u)) ∙ ap (λ (b : Bool). if b then act_term p v else susp p y) (var_eq_flip x y ∙ e))
        | false ↦ λ e. moved_put p y bs (var_eq_flip x y ∙ e)
      ] refl

-- The bindings of a stage extend the first ones.
abbrev pub Extends : List Binding → List Binding → Type 0
Extends first bs = IsIdempotent bs × ((t : NominalTerm) → under bs (under first t) ≡ under bs t) × ((x : Var) → is_bound x first ≡ true → is_bound x bs ≡ true)

abbrev ExtendsIn : List Binding → Ending → Type 0
ExtendsIn first unfinished = Unit {0}
ExtendsIn first unsolvable = Unit {0}
ExtendsIn first (solved r) = Extends first r.bindings

module _ (first : List Binding) where
  extends_bind : (x : Var) (v : NominalTerm) (bs : List Binding) → IsUnbound bs x → EachVar (IsUnbound bs) v → occurs x v ≡ false → Extends first bs
      → Extends first (bound_in x v bs)
  extends_bind x v bs u k e h = (
    idempotent_bind x v bs u k e h.0,
    (λ t. under_bind x v bs u (under first t) ∙ ap (put x v) (h.1 t) ∙ sym (under_bind x v bs u t)),
    (λ y b. or_if_right (var_eq y x) (is_bound y (map (put_binding x v) bs)) (is_bound_put x v y bs ∙ h.2 y b)),
  )

  after_extends : (k m : ℕ) → ((r : Stage) → EachEquation (IsUnbound r.bindings) r.equations → Extends first r.bindings → ExtendsIn first (run k r))
      → (r : Rule) (es : List Equation) (ps : List Problem) (bs : List Binding) (whole : Stage) → Shrinks (IsUnbound bs) m r → EachEquation (IsUnbound bs) es → Extends first bs → ExtendsIn first (ending_after (run k) whole (apply_rule r es ps bs))
  after_extends k m go (replace new qs) es ps bs whole s e h = go _ (each_equation-append (IsUnbound bs) new es s.1 e) h
  after_extends k m go (bind x v) es ps bs whole s e h =
      go _
      (each_equation_put (IsUnbound bs) (IsUnbound (bound_in x v bs)) x v (unbound_after x v bs) (new_unbound x v bs s.1 s.2) es e)
      (extends_bind x v bs s.0 s.1 s.2 h)
  after_extends k m go clash es ps bs whole s e h = tt

  step_extends : (k : ℕ) → ((r : Stage) → EachEquation (IsUnbound r.bindings) r.equations → Extends first r.bindings → ExtendsIn first (run k r))
      → (es : List Equation) (ps : List Problem) (bs : List Binding) → EachEquation (IsUnbound bs) es → Extends first bs → ExtendsIn first (run (suc k) (record { equations = es; problems = ps; bindings = bs }))
  step_extends k go [] ps bs e h = h
  step_extends k go ((t ≐ u) ∷ es) ps bs e h =
      after_extends k (size t + size u) go (rule t u) es ps bs (record { equations = (t ≐ u) ∷ es; problems = ps; bindings = bs }) (rule_shrinks (IsUnbound bs) t u e.0.0 e.0.1) e.1 h

  run_extends : (k : ℕ) (r : Stage) → EachEquation (IsUnbound r.bindings) r.equations → Extends first r.bindings → ExtendsIn first (run k r)
  run_extends zero r e h = tt
  run_extends (suc k) r e h = step_extends k (run_extends k) r.equations r.problems r.bindings e h

equations_unbound : (bs : List Binding) → IsIdempotent bs → (ts us : List NominalTerm) → EachEquation (IsUnbound bs) (equations_of bs ts us)
equations_unbound bs h [] us = tt
equations_unbound bs h (t ∷ ts) [] = tt
equations_unbound bs h (t ∷ ts) (u ∷ us) = ((under_each bs h t, under_each bs h u), equations_unbound bs h ts us)

-- The conditions of a result.
abbrev pub EachSome : (Var → Type 0) → Option (List Cond) → Type 0
EachSome P None = Unit {0}
EachSome P (Some cs) = EachCond P cs

module _ (P : Var → Type 0) where
  each_cond-append : (cs ds : List Cond) → EachCond P cs → EachCond P ds → EachCond P (cs ++ ds)
  each_cond-append [] ds h k = k
  each_cond-append (c ∷ cs) ds h k = (h.0, each_cond-append cs ds h.1 k)

  each_both : (o p : Option (List Cond)) → EachSome P o → EachSome P p → EachSome P (both o p)
  each_both None p h k = tt
  each_both (Some cs) None h k = tt
  each_both (Some cs) (Some ds) h k = each_cond-append cs ds h k

  each_reduce : (a : Name) (t : NominalTerm) → EachVar P t → EachSome P (reduce a t)
  each_reduce a unit h = tt
  each_reduce a (name b) h = elim (name_eq a b) as (λ v. EachSome P (if v then None else Some [])) [ true ↦ tt | false ↦ tt ]
  each_reduce a (pair t u) h = each_both (reduce a t) (reduce a u) (each_reduce a t (each_left P t u h)) (each_reduce a u (each_right P t u h))
  each_reduce a (app f t) h = each_reduce a t h
  each_reduce a (abs b t) h = elim (name_eq a b) as (λ v. EachSome P (if v then Some [] else reduce a t)) [ true ↦ tt | false ↦ each_reduce a t h ]
  each_reduce a (susp p x) h = (susp_each P p x h, tt)

  pub each_reduce_all : (bs : List Binding) (ps : List Problem) → ((t : NominalTerm) → EachVar P t → EachVar P (under bs t)) → EachProblem P ps
      → EachSome P (reduce_all bs ps)
  each_reduce_all bs [] m h = tt
  each_reduce_all bs ((a # t) ∷ ps) m h = each_both (reduce a (under bs t)) (reduce_all bs ps) (each_reduce a (under bs t) (m t h.0)) (each_reduce_all bs ps m h.1)

  each_add : (c : Cond) (ds : Conds) → P c.var → EachCond P ds → EachCond P (add_cond c ds)
  each_add c [] h k = (h, tt)
  each_add c (b ∷ bs) h k =
      elim (cond_eq c b) as (λ v. EachCond P (if v then (b ∷ bs) else (if cond_before c b then (c ∷ b ∷ bs) else (b ∷ add_cond c bs)))) [
        | true ↦ k
        | false ↦ elim (cond_before c b) as (λ v. EachCond P (if v then (c ∷ b ∷ bs) else (b ∷ add_cond c bs))) [ true ↦ (h, k) | false ↦ (k.0, each_add c bs h k.1) ]
      ]

  pub each_add_all : (cs : List Cond) (ds : Conds) → EachCond P cs → EachCond P ds → EachCond P (add_conds cs ds)
  each_add_all [] ds h k = k
  each_add_all (c ∷ cs) ds h k = each_add c (add_conds cs ds) h.0 (each_add_all cs ds h.1 k)

reduce_all_unbound : (bs : List Binding) → IsIdempotent bs → (ps : List Problem) → EachSome (IsUnbound bs) (reduce_all bs ps)
reduce_all_unbound bs h [] = tt
reduce_all_unbound bs h ((a # t) ∷ ps) =
    each_both (IsUnbound bs) (reduce a (under bs t)) (reduce_all bs ps) (each_reduce (IsUnbound bs) a (under bs t) (under_each bs h t)) (reduce_all_unbound bs h ps)

abbrev pub ExtendsWell : List Binding → Option Unified → Type 0
ExtendsWell first None = Unit {0}
ExtendsWell first (Some r) = Extends first r.bindings × EachCond (IsUnbound r.bindings) r.conditions

with_extends : (first bs : List Binding) → Extends first bs → (o : Option (List Cond)) → EachSome (IsUnbound bs) o → ExtendsWell first (unified_under bs o)
with_extends first bs h None k = tt
with_extends first bs h (Some cs) k = (h, each_add_all (IsUnbound bs) cs [] k tt)

finish_extends : (first : List Binding) (ds : Conds) (e : Ending) → ExtendsIn first e → ExtendsWell first (finish ds e)
finish_extends first ds unfinished h = tt
finish_extends first ds unsolvable h = tt
finish_extends first ds (solved r) h = with_extends first r.bindings h (reduce_all r.bindings (map problem_of ds ++ r.problems)) (reduce_all_unbound r.bindings h.0 (map problem_of ds ++ r.problems))

-- what unification gives is idempotent, extends the bindings, and has no condition on a bound variable
pub unify_extends : (bs : List Binding) (ds : Conds) (ts us : List NominalTerm) → IsIdempotent bs → ExtendsWell bs (unify bs ds ts us)
unfolding unify ending
unify_extends bs ds ts us h =
    let first = first_stage bs ts us in
    finish_extends bs ds (ending first) (run_extends bs (steps_for first) first (equations_unbound bs h ts us) (h, under_under bs h, (λ x b. b)))
