-- The result of unification solves the equations under its own conditions, and brings no variable of its own.
use Rattle.std.proofs.Common.{subst, ◌≡◌, ◌+◌, ℕ, zero, suc, Bool, true, false, List, [], ◌∷◌, ◌++◌, map, refl, sym, ap, ap₂, ◌∙◌, true≢false}
use Rattle.std.specs.Prelude.{if◌then◌else◌, Option, Some, None}
use Rattle.ap_defs.specs.Freshness.{Conds, alpha_under, cond_eq, fresh_under, has_cond, var_eq}
use Rattle.ap_defs.specs.Substitution.{Binding, Equation, Problem, bound_term, moved, put_binding, under, ◌:=◌, ◌≐◌}
use Rattle.ap_defs.specs.Terms.{NominalTerm, abs, app, name, pair, susp, unit}
use Rattle.ap_defs.specs.Unification.{Ending, Rule, Stage, Unified, ending_after, apply_rule, bind, clash, ending, equations_of, finish, first_stage, problem_of, reduce_all, replace, rule, run, size, solved, steps_for, unfinished, unify, unsolvable, unified_under}
use Rattle.ap_defs.specs.declared.terms.Cond.{Cond}
use Rattle.ap_defs.specs.declared.terms.Swap.{Swap}
use Rattle.ap_defs.specs.declared.terms.Var.{Var}
use Rattle.ap_theory.specs.Contexts.{Context, Equal, Fresh, listed_context}
use Rattle.ap_theory.specs.StatementsOnResults.{equal_all_under, fresh_all_under}
use Rattle.ap_theory.specs.Substitutions.{Agrees, EquatesAll, IsInstance, Meets, applied, bound_or_itself, substitution_of}
use Rattle.ap_theory.specs.Variables.{BindsOnce, BindsUnbound, EachBinding, EachCond, EachTerm, EachVar, IsIdempotent, IsUnbound, is_bound}
use Rattle.ap_theory.proofs.BooleanLemmas.{and_both, or_if_left, or_if_right}
use Rattle.ap_theory.proofs.EqualityLemmas.{Equal_itself}
use Rattle.ap_theory.proofs.IdempotenceLemmas.{EachSome, ExtendsWell, bound_term_unbound, each_add_all, each_reduce_all, under_unbound, unify_extends}
use Rattle.ap_theory.proofs.MostGeneralLemmas.{unify_Solves}
use Rattle.ap_theory.proofs.SubstitutionLemmas.{under_applied}
use Rattle.ap_theory.proofs.TermLemmas.{act_term_none, cond_eq_itself, same_var}
use Rattle.ap_theory.proofs.TerminationLemmas.{Shrinks, rule_shrinks}
use Rattle.ap_theory.proofs.TestLemmas.{Equal_alpha_under, Fresh_fresh_under}
use Rattle.ap_theory.proofs.VariableLemmas.{EachEquation, EachProblem, each_act, each_equation-append, each_equation_put, each_left, each_pair, each_problem-append, each_problem_put, each_put, each_right, each_susp, not_var, susp_each}

-- idempotent bindings agree with themselves
agrees_itself : (d : Context) (bs cs : List Binding) → ((y : Var) → is_bound y cs ≡ true → substitution_of bs y ≡ substitution_of cs y)
    → BindsUnbound bs cs → BindsOnce cs → Agrees d (substitution_of bs) cs
agrees_itself d bs [] m h o = tt
agrees_itself d bs ((x := t) ∷ cs) m h o =
    let here : substitution_of bs x ≡ t = m x (or_if_left (var_eq x x) (is_bound x cs) (same_var x x refl)) ∙ ap (λ (b : Bool). bound_or_itself x (if b then Some t else bound_term cs x)) (same_var x x refl) in
    let same : applied (substitution_of bs) t ≡ t = sym (under_applied bs t) ∙ under_unbound bs t h.0 in (
      subst (λ (z : NominalTerm). Equal d z (applied (substitution_of bs) t)) (sym here) (subst (λ (z : NominalTerm). Equal d t z) (sym same) (Equal_itself d t)),
      agrees_itself d bs cs
          (λ y b. m y (or_if_right (var_eq y x) (is_bound y cs) b)
          ∙ ap (λ (c : Bool). bound_or_itself y (if c then Some t else bound_term cs y)) (not_var y x (λ e. true≢false (sym b ∙ ap (λ z. is_bound z cs) e ∙ o.0))))
          h.1 o.1,
    )

meets_itself : (bs : List Binding) (ds cs : Conds) → ((c : Cond) → has_cond c cs ≡ true → has_cond c ds ≡ true) → EachCond (IsUnbound bs) cs
    → Meets (listed_context ds) (substitution_of bs) cs
meets_itself bs ds [] m h = tt
meets_itself bs ds (c ∷ cs) m h = (
  subst (λ (z : NominalTerm). Fresh (listed_context ds) c.name z) (sym (ap (bound_or_itself c.var) (bound_term_unbound bs c.var h.0))) (m c (or_if_left (cond_eq c c) (has_cond c cs) (cond_eq_itself c))),
  meets_itself bs ds cs (λ b k. m b (or_if_right (cond_eq b c) (has_cond b cs) k)) h.1,
)

-- a result that is idempotent and has conditions on unbound variables is its own instance
pub result_itself : (r : Unified) → IsIdempotent r.bindings → EachCond (IsUnbound r.bindings) r.conditions
    → IsInstance (listed_context r.conditions) (substitution_of r.bindings) (Some r)
result_itself r h k = (
  agrees_itself (listed_context r.conditions) r.bindings r.bindings (λ y b. refl) h.0 h.1,
  meets_itself r.bindings r.conditions r.conditions (λ c m. m) k,
)

abbrev SolvesItself : List Binding → Conds → List NominalTerm → List NominalTerm → Option Unified → Type 0
SolvesItself bs ds ts us None = Unit {0}
SolvesItself bs ds ts us (Some r) =
    Meets (listed_context r.conditions) (substitution_of r.bindings) ds × Agrees (listed_context r.conditions) (substitution_of r.bindings) bs × EquatesAll (listed_context r.conditions) (substitution_of r.bindings) ts us

-- the result solves what was to be solved
pub unify_solves_itself : (bs : List Binding) (ds : Conds) (ts us : List NominalTerm) (r : Unified) → IsIdempotent bs → unify bs ds ts us ≡ Some r
    → SolvesItself bs ds ts us (Some r)
unify_solves_itself bs ds ts us r h e =
    let well : ExtendsWell bs (Some r) = subst (ExtendsWell bs) e (unify_extends bs ds ts us h) in
    (unify_Solves (listed_context r.conditions) (substitution_of r.bindings) bs ds ts us).1
    (subst (IsInstance (listed_context r.conditions) (substitution_of r.bindings)) (sym e) (result_itself r well.0.0 well.1))

-- The same with the tests.
equal_all_tested : (cs : Conds) (bs : List Binding) (ts us : List NominalTerm) → EquatesAll (listed_context cs) (substitution_of bs) ts us
    → equal_all_under cs bs ts us ≡ true
equal_all_tested cs bs [] us h = refl
equal_all_tested cs bs (t ∷ ts) [] h = refl
equal_all_tested cs bs (t ∷ ts) (u ∷ us) h =
    and_both _ _
    (ap₂ (alpha_under cs) (under_applied bs t) (under_applied bs u) ∙ Equal_alpha_under cs (applied (substitution_of bs) t) (applied (substitution_of bs) u) h.0)
    (equal_all_tested cs bs ts us h.1)

fresh_all_tested : (cs : Conds) (bs : List Binding) (ds : Conds) → Meets (listed_context cs) (substitution_of bs) ds → fresh_all_under cs bs ds ≡ true
fresh_all_tested cs bs [] h = refl
fresh_all_tested cs bs (d ∷ ds) h =
    and_both _ _
    (ap (fresh_under cs d.name) (under_applied bs (susp [] d.var) ∙ act_term_none (substitution_of bs d.var)) ∙ Fresh_fresh_under cs d.name (substitution_of bs d.var) h.0)
    (fresh_all_tested cs bs ds h.1)

pub unify_equal_all : (bs : List Binding) (ds : Conds) (ts us : List NominalTerm) (r : Unified) → IsIdempotent bs → unify bs ds ts us ≡ Some r
    → equal_all_under r.conditions r.bindings ts us ≡ true
unify_equal_all bs ds ts us r h e = equal_all_tested r.conditions r.bindings ts us (unify_solves_itself bs ds ts us r h e).2

pub unify_fresh_all : (bs : List Binding) (ds : Conds) (ts us : List NominalTerm) (r : Unified) → IsIdempotent bs → unify bs ds ts us ≡ Some r
    → fresh_all_under r.conditions r.bindings ds ≡ true
unify_fresh_all bs ds ts us r h e = fresh_all_tested r.conditions r.bindings ds (unify_solves_itself bs ds ts us r h e).0

pub unify_idempotent : (bs : List Binding) (ds : Conds) (ts us : List NominalTerm) (r : Unified) → IsIdempotent bs → unify bs ds ts us ≡ Some r
    → IsIdempotent r.bindings × EachCond (IsUnbound r.bindings) r.conditions
unify_idempotent bs ds ts us r h e = let k : ExtendsWell bs (Some r) = subst (ExtendsWell bs) e (unify_extends bs ds ts us h) in (k.0.0, k.1)

pub under_unify : (bs : List Binding) (ds : Conds) (ts us : List NominalTerm) (r : Unified) → IsIdempotent bs → unify bs ds ts us ≡ Some r
    → (t : NominalTerm) → under r.bindings (under bs t) ≡ under r.bindings t
under_unify bs ds ts us r h e = let k : ExtendsWell bs (Some r) = subst (ExtendsWell bs) e (unify_extends bs ds ts us h) in k.0.1

pub is_bound_unify : (bs : List Binding) (ds : Conds) (ts us : List NominalTerm) (r : Unified) → IsIdempotent bs → unify bs ds ts us ≡ Some r
    → (x : Var) → is_bound x bs ≡ true → is_bound x r.bindings ≡ true
is_bound_unify bs ds ts us r h e = let k : ExtendsWell bs (Some r) = subst (ExtendsWell bs) e (unify_extends bs ds ts us h) in k.0.2

-- A property of the variables that stand in the input is one of those in the result.
module _ (P : Var → Type 0) where
  moved_keeps : (bs : List Binding) (p : List Swap) (x : Var) → EachBinding P bs → P x → EachVar P (moved p x (bound_term bs x))
  moved_keeps [] p x h k = each_susp P p x k
  moved_keeps ((y := t) ∷ bs) p x h k =
      elim (var_eq x y) as (λ b. EachVar P (moved p x (if b then Some t else bound_term bs x))) [ true ↦ each_act P p t h.0.1 | false ↦ moved_keeps bs p x h.1 k ]

  pub under_keeps : (bs : List Binding) → EachBinding P bs → (t : NominalTerm) → EachVar P t → EachVar P (under bs t)
  under_keeps bs h unit k = k
  under_keeps bs h (name a) k = k
  under_keeps bs h (pair t u) k = each_pair P (under bs t) (under bs u) (under_keeps bs h t (each_left P t u k)) (under_keeps bs h u (each_right P t u k))
  under_keeps bs h (app f t) k = under_keeps bs h t k
  under_keeps bs h (abs a t) k = under_keeps bs h t k
  under_keeps bs h (susp p x) k = moved_keeps bs p x h (susp_each P p x k)

  equations_keep : (bs : List Binding) → EachBinding P bs → (ts us : List NominalTerm) → EachTerm P ts → EachTerm P us → EachEquation P (equations_of bs ts us)
  equations_keep bs h [] us k l = tt
  equations_keep bs h (t ∷ ts) [] k l = tt
  equations_keep bs h (t ∷ ts) (u ∷ us) k l = ((under_keeps bs h t k.0, under_keeps bs h u l.0), equations_keep bs h ts us k.1 l.1)

  each_binding_put : (x : Var) (v : NominalTerm) → EachVar P v → (bs : List Binding) → EachBinding P bs → EachBinding P (map (put_binding x v) bs)
  each_binding_put x v k [] h = tt
  each_binding_put x v k ((y := t) ∷ bs) h = ((h.0.0, each_put P P x v (λ z q n. q) k t h.0.1), each_binding_put x v k bs h.1)

  abbrev KeepsIn : Ending → Type 0
  KeepsIn unfinished = Unit {0}
  KeepsIn unsolvable = Unit {0}
  KeepsIn (solved r) = EachProblem P r.problems × EachBinding P r.bindings

  after_keeps : (k m : ℕ) → ((r : Stage) → EachEquation P r.equations → EachProblem P r.problems → EachBinding P r.bindings → KeepsIn (run k r))
      → (r : Rule) (es : List Equation) (ps : List Problem) (bs : List Binding) (whole : Stage) → Shrinks P m r → EachEquation P es → EachProblem P ps → EachBinding P bs → KeepsIn (ending_after (run k) whole (apply_rule r es ps bs))
  after_keeps k m go (replace new qs) es ps bs whole s e p b = go _ (each_equation-append P new es s.1 e) (each_problem-append P ps qs p s.2) b
  after_keeps k m go (bind x v) es ps bs whole s e p b =
      go _ (each_equation_put P P x v (λ z q n. q) s.1 es e) (each_problem_put P P x v (λ z q n. q) s.1 ps p) ((s.0, s.1), each_binding_put x v s.1 bs b)
  after_keeps k m go clash es ps bs whole s e p b = tt

  step_keeps : (k : ℕ) → ((r : Stage) → EachEquation P r.equations → EachProblem P r.problems → EachBinding P r.bindings → KeepsIn (run k r))
      → (es : List Equation) (ps : List Problem) (bs : List Binding) → EachEquation P es → EachProblem P ps → EachBinding P bs → KeepsIn (run (suc k) (record { equations = es; problems = ps; bindings = bs }))
  step_keeps k go [] ps bs e p b = (p, b)
  step_keeps k go ((t ≐ u) ∷ es) ps bs e p b =
      after_keeps k (size t + size u) go (rule t u) es ps bs (record { equations = (t ≐ u) ∷ es; problems = ps; bindings = bs }) (rule_shrinks P t u e.0.0 e.0.1) e.1 p b

  run_keeps : (k : ℕ) (r : Stage) → EachEquation P r.equations → EachProblem P r.problems → EachBinding P r.bindings → KeepsIn (run k r)
  run_keeps zero r e p b = tt
  run_keeps (suc k) r e p b = step_keeps k (run_keeps k) r.equations r.problems r.bindings e p b

  each_problem_conds : (ds : Conds) → EachCond P ds → EachProblem P (map problem_of ds)
  each_problem_conds [] h = tt
  each_problem_conds (d ∷ ds) h = (each_susp P [] d.var h.0, each_problem_conds ds h.1)

  abbrev KeepsResult : Option Unified → Type 0
  KeepsResult None = Unit {0}
  KeepsResult (Some r) = EachBinding P r.bindings × EachCond P r.conditions

  with_keeps : (bs : List Binding) (o : Option (List Cond)) → EachBinding P bs → EachSome P o → KeepsResult (unified_under bs o)
  with_keeps bs None h k = tt
  with_keeps bs (Some cs) h k = (h, each_add_all P cs [] k tt)

  finish_keeps : (ds : Conds) (e : Ending) → EachCond P ds → KeepsIn e → KeepsResult (finish ds e)
  finish_keeps ds unfinished h k = tt
  finish_keeps ds unsolvable h k = tt
  finish_keeps ds (solved r) h k =
      with_keeps r.bindings (reduce_all r.bindings (map problem_of ds ++ r.problems)) k.1
      (each_reduce_all P r.bindings (map problem_of ds ++ r.problems) (under_keeps r.bindings k.1) (each_problem-append P (map problem_of ds) r.problems (each_problem_conds ds h) k.0))

  unify_keeps_all : (bs : List Binding) (ds : Conds) (ts us : List NominalTerm) → EachBinding P bs → EachCond P ds → EachTerm P ts → EachTerm P us
      → KeepsResult (unify bs ds ts us)
  unfolding unify ending
  unify_keeps_all bs ds ts us b c t u =
      let first = first_stage bs ts us in
      finish_keeps ds (ending first) c (run_keeps (steps_for first) first (equations_keep bs b ts us t u) tt b)

  pub unify_keeps : (bs : List Binding) (ds : Conds) (ts us : List NominalTerm) (r : Unified) → EachBinding P bs → EachCond P ds → EachTerm P ts
      → EachTerm P us → unify bs ds ts us ≡ Some r → EachBinding P r.bindings × EachCond P r.conditions
  unify_keeps bs ds ts us r b c t u e = subst KeepsResult e (unify_keeps_all bs ds ts us b c t u)
