-- What unification does with terms that count as equal counts as equal, by any relation of bindings that suits.
use Rattle.std.proofs.Common.{subst, ◌≡◌, ◌+◌, ℕ, zero, suc, true, false, List, [], ◌∷◌, ◌++◌, map, refl, sym, ap₂, arith}
use Rattle.std.specs.Prelude.{if◌then◌else◌, Option, Some, None}
use Rattle.ap_defs.specs.Freshness.{Conds, both, var_eq}
use Rattle.ap_defs.specs.Permutations.{IsSamePerm}
use Rattle.ap_defs.specs.SameTerm.{SameBindings, SameEnding, SameEquations, SameProblems, SameRule, SameStage, SameTerm, SameTerms, SameUnified, next_binding, next_equation, next_problem, next_term, no_bindings, no_equations, no_problems, no_terms, same_abs, same_app, same_bind, same_clash, same_name, same_pair, same_replace, same_susp, same_unit}
use Rattle.ap_defs.specs.Substitution.{Binding, Equation, Problem, bound_term, moved, put, put_binding, under, ◌:=◌}
use Rattle.ap_defs.specs.Terms.{NominalTerm}
use Rattle.ap_defs.specs.Unification.{Ending, Progress, Rule, Stage, Unified, ending_after, apply_rule, done, ending, equations_of, failed, finish, first_stage, next, problem_of, reduce_all, run, solved, step, step_of, steps_for, unfinished, unify, unsolvable, unified_under}
use Rattle.ap_defs.specs.declared.terms.Cond.{Cond}
use Rattle.ap_defs.specs.declared.terms.Swap.{Swap}
use Rattle.ap_defs.specs.declared.terms.Var.{Var}
use Rattle.ap_theory.specs.StatementsOnUnification.{BindAlike, BoundAlike, UnifiedAlike}
use Rattle.ap_theory.proofs.SameTermLemmas.{act_same, conds_same, equations_append_same, problems_append_same, put_bindings_same, put_equations_same, put_problems_same, put_same, reduce_same, rule_same}
use Rattle.ap_theory.proofs.TerminationLemmas.{ending_ends, run_more}

-- Bindings that are related may each get a binding, carried out, of terms that count as equal, and bind each variable alike.
pub record Suits (R : List Binding → List Binding → Type 0) : Type 0 where
  pub bound : (x : Var) (v w : NominalTerm) (r s : List Binding) → SameTerm v w → R r s
      → R ((x := v) ∷ map (put_binding x v) r) ((x := w) ∷ map (put_binding x w) s)
  pub moved_by : (p q : List Swap) (x : Var) (r s : List Binding) → IsSamePerm p q → R r s → SameTerm (moved p x (bound_term r x)) (moved q x (bound_term s x))

module _ (R : List Binding → List Binding → Type 0) where
  abbrev StageBy : Stage → Stage → Type 0
  StageBy s r = SameEquations s.equations r.equations × SameProblems s.problems r.problems × R s.bindings r.bindings

  abbrev ProgressBy : Progress → Progress → Type 0
  ProgressBy done done = Unit {0}
  ProgressBy failed failed = Unit {0}
  ProgressBy (next s) (next r) = StageBy s r
  ProgressBy _ _ = ⊥

  abbrev pub EndingBy : Ending → Ending → Type 0
  EndingBy unfinished unfinished = Unit {0}
  EndingBy unsolvable unsolvable = Unit {0}
  EndingBy (solved s) (solved r) = StageBy s r
  EndingBy _ _ = ⊥

  abbrev pub UnifiedBy : Option Unified → Option Unified → Type 0
  UnifiedBy None None = Unit {0}
  UnifiedBy (Some a) (Some b) = R a.bindings b.bindings × (a.conditions ≡ b.conditions)
  UnifiedBy _ _ = ⊥

module _ (R : List Binding → List Binding → Type 0) (suits : Suits R) where
  apply_by : {a b : Rule} → SameRule a b → {es fs : List Equation} {ps qs : List Problem} (s r : List Binding) → SameEquations es fs
      → SameProblems ps qs → R s r
      → ProgressBy R (apply_rule a es ps s) (apply_rule b fs qs r)
  apply_by (same_replace h i) s r j k l = (equations_append_same h j, problems_append_same k i, l)
  apply_by (same_bind {x} {t = v} {u = w} h) s r j k l = (put_equations_same x h j, put_problems_same x h k, suits.bound x v w s r h l)
  apply_by same_clash s r j k l = tt

  step_by : {es fs : List Equation} {ps qs : List Problem} (s r : List Binding) → SameEquations es fs → SameProblems ps qs → R s r
      → ProgressBy R (step_of es ps s) (step_of fs qs r)
  step_by s r no_equations k l = tt
  step_by s r (next_equation h i j) k l = apply_by (rule_same h i) s r j k l

  after_by : (f g : Stage → Ending) → ((s r : Stage) → StageBy R s r → EndingBy R (f s) (g r)) → (s r : Stage) → StageBy R s r → (p q : Progress)
      → ProgressBy R p q
      → EndingBy R (ending_after f s p) (ending_after g r q)
  after_by f g go s r h done done i = h
  after_by f g go s r h failed failed i = tt
  after_by f g go s r h (next s') (next r') i = go s' r' i
  after_by f g go s r h _ _ i = absurd i

  run_by : (k : ℕ) (s r : Stage) → StageBy R s r → EndingBy R (run k s) (run k r)
  run_by zero s r h = tt
  run_by (suc k) s r h = after_by (run k) (run k) (run_by k) s r h (step s) (step r) (step_by s.bindings r.bindings h.0 h.1 h.2)

  pub ending_by_relation : (s r : Stage) → StageBy R s r → EndingBy R (ending s) (ending r)
  unfolding ending
  ending_by_relation s r h =
      let k = steps_for s + steps_for r in
      let a : run k s ≡ run (steps_for s) s = run_more (steps_for s) k s (omega arith) (ending_ends s) in
      let b : run k r ≡ run (steps_for r) r = run_more (steps_for r) k r (omega arith) (ending_ends r) in
      subst (λ (e : Ending). EndingBy R e (run (steps_for r) r)) a (subst (λ (e : Ending). EndingBy R (run k s) e) b (run_by k s r h))

  pub under_by : (r s : List Binding) → R r s → {t u : NominalTerm} → SameTerm t u → SameTerm (under r t) (under s u)
  under_by r s b same_unit = same_unit
  under_by r s b same_name = same_name
  under_by r s b (same_pair h i) = same_pair (under_by r s b h) (under_by r s b i)
  under_by r s b (same_app h) = same_app (under_by r s b h)
  under_by r s b (same_abs h) = same_abs (under_by r s b h)
  under_by r s b (same_susp {p} {q} {x} h) = suits.moved_by p q x r s h b

  reduce_all_by : (r s : List Binding) → R r s → {ps qs : List Problem} → SameProblems ps qs → reduce_all r ps ≡ reduce_all s qs
  reduce_all_by r s b no_problems = refl
  reduce_all_by r s b (next_problem {a} h i) = ap₂ both (reduce_same a (under_by r s b h)) (reduce_all_by r s b i)

  with_by : (r s : List Binding) → R r s → (o : Option (List Cond)) → UnifiedBy R (unified_under r o) (unified_under s o)
  with_by r s b None = tt
  with_by r s b (Some cs) = (b, refl)

  finish_by : (ds : Conds) (e f : Ending) → EndingBy R e f → UnifiedBy R (finish ds e) (finish ds f)
  finish_by ds unfinished unfinished h = tt
  finish_by ds unsolvable unsolvable h = tt
  finish_by ds (solved s) (solved r) h =
      let same = reduce_all_by s.bindings r.bindings h.2 (problems_append_same (conds_same ds) h.1) in
      subst (λ (o : Option (List Cond)). UnifiedBy R (unified_under s.bindings (reduce_all s.bindings (map problem_of ds ++ s.problems))) (unified_under r.bindings o)) same
      (with_by s.bindings r.bindings h.2 (reduce_all s.bindings (map problem_of ds ++ s.problems)))
  finish_by ds _ _ h = absurd h

  equations_by : (r s : List Binding) → R r s → {ts us vs ws : List NominalTerm} → SameTerms ts vs → SameTerms us ws
      → SameEquations (equations_of r ts us) (equations_of s vs ws)
  equations_by r s b no_terms k = no_equations
  equations_by r s b (next_term h i) no_terms = no_equations
  equations_by r s b (next_term h i) (next_term j k) = next_equation (under_by r s b h) (under_by r s b j) (equations_by r s b i k)

  pub unify_by_relation : (r s : List Binding) (ds : Conds) (ts us vs ws : List NominalTerm) → R r s → SameTerms ts vs → SameTerms us ws
      → UnifiedBy R (unify r ds ts us) (unify s ds vs ws)
  unfolding unify
  unify_by_relation r s ds ts us vs ws b h k =
      finish_by ds (ending (first_stage r ts us)) (ending (first_stage s vs ws)) (ending_by_relation (first_stage r ts us) (first_stage s vs ws) (equations_by r s b h k, no_problems, b))

-- Bindings in one order.
moved_bound_same : (p q : List Swap) (x : Var) → IsSamePerm p q → {r s : List Binding} → SameBindings r s
    → SameTerm (moved p x (bound_term r x)) (moved q x (bound_term s x))
moved_bound_same p q x h no_bindings = same_susp h
moved_bound_same p q x h (next_binding {x = y} {t} {u} {r} {s} i j) =
    elim (var_eq x y) as (λ b. SameTerm (moved p x (if b then Some t else bound_term r x)) (moved q x (if b then Some u else bound_term s x))) [
      | true ↦ act_same p q h i
      | false ↦ moved_bound_same p q x h j
    ]

same_bindings_suit : Suits SameBindings
same_bindings_suit = record {
  bound = λ x v w r s h b. next_binding h (put_bindings_same x h b);
  moved_by = λ p q x r s h b. moved_bound_same p q x h b;
}

pub under_same : {r s : List Binding} → SameBindings r s → {t u : NominalTerm} → SameTerm t u → SameTerm (under r t) (under s u)
under_same {r} {s} b h = under_by SameBindings same_bindings_suit r s b h

pub ending_same : (s r : Stage) → SameStage s r → SameEnding (ending s) (ending r)
ending_same s r h = same_ending (ending s) (ending r) (ending_by_relation SameBindings same_bindings_suit s r (h.equations, h.problems, h.bindings))
  where
    same_ending : (e f : Ending) → EndingBy SameBindings e f → SameEnding e f
    same_ending unfinished unfinished k = tt
    same_ending unsolvable unsolvable k = tt
    same_ending (solved a) (solved b) k = record { equations = k.0; problems = k.1; bindings = k.2 }
    same_ending _ _ k = absurd k

-- terms and bindings that count as equal unify with results that count as equal
pub unify_same : {r s : List Binding} → SameBindings r s → (ds : Conds) → {ts us vs ws : List NominalTerm} → SameTerms ts vs → SameTerms us ws
    → SameUnified (unify r ds ts us) (unify s ds vs ws)
unify_same {r} {s} b ds {ts} {us} {vs} {ws} h k = same_unified (unify r ds ts us) (unify s ds vs ws) (unify_by_relation SameBindings same_bindings_suit r s ds ts us vs ws b h k)
  where
    same_unified : (o p : Option Unified) → UnifiedBy SameBindings o p → SameUnified o p
    same_unified None None l = tt
    same_unified (Some a) (Some b) l = l
    same_unified _ _ l = absurd l

-- Bindings that bind each variable alike.
put_some : Var → NominalTerm → Option NominalTerm → Option NominalTerm
put_some x v None = None
put_some x v (Some t) = Some (put x v t)

bound_term_put : (x : Var) (v : NominalTerm) (y : Var) (r : List Binding) → bound_term (map (put_binding x v) r) y ≡ put_some x v (bound_term r y)
unfolding put_some
bound_term_put x v y [] = refl
bound_term_put x v y ((z := t) ∷ r) =
    elim (var_eq y z) as (λ b. (if b then Some (put x v t) else bound_term (map (put_binding x v) r) y) ≡ put_some x v (if b then Some t else bound_term r y)) [
      | true ↦ refl
      | false ↦ bound_term_put x v y r
    ]

put_alike : (x : Var) (v w : NominalTerm) → SameTerm v w → (o p : Option NominalTerm) → BoundAlike o p → BoundAlike (put_some x v o) (put_some x w p)
unfolding put_some
put_alike x v w h None None k = tt
put_alike x v w h (Some t) (Some u) k = put_same x h k
put_alike x v w h _ _ k = absurd k

moved_alike : (p q : List Swap) (x : Var) → IsSamePerm p q → (o r : Option NominalTerm) → BoundAlike o r → SameTerm (moved p x o) (moved q x r)
moved_alike p q x h None None k = same_susp h
moved_alike p q x h (Some t) (Some u) k = act_same p q h k
moved_alike p q x h _ _ k = absurd k

bind_alike : (x : Var) (v w : NominalTerm) (r s : List Binding) → SameTerm v w → BindAlike r s
    → BindAlike ((x := v) ∷ map (put_binding x v) r) ((x := w) ∷ map (put_binding x w) s)
bind_alike x v w r s h k y =
    elim (var_eq y x) as (λ b. BoundAlike (if b then Some v else bound_term (map (put_binding x v) r) y) (if b then Some w else bound_term (map (put_binding x w) s) y)) [
      | true ↦ h
      | false ↦
          subst (λ (o : Option NominalTerm). BoundAlike o (bound_term (map (put_binding x w) s) y)) (sym (bound_term_put x v y r))
          (subst (λ (o : Option NominalTerm). BoundAlike (put_some x v (bound_term r y)) o) (sym (bound_term_put x w y s)) (put_alike x v w h (bound_term r y) (bound_term s y) (k y)))
    ]

alike_suits : Suits BindAlike
alike_suits = record {
  bound = bind_alike;
  moved_by = λ p q x r s h b. moved_alike p q x h (bound_term r x) (bound_term s x) (b x);
}

pub unify_alike : (r s : List Binding) (ds : Conds) (ts us vs ws : List NominalTerm) → BindAlike r s → SameTerms ts vs → SameTerms us ws
    → UnifiedAlike (unify r ds ts us) (unify s ds vs ws)
unify_alike r s ds ts us vs ws b h k = unified_alike (unify r ds ts us) (unify s ds vs ws) (unify_by_relation BindAlike alike_suits r s ds ts us vs ws b h k)
  where
    unified_alike : (o p : Option Unified) → UnifiedBy BindAlike o p → UnifiedAlike o p
    unified_alike None None l = tt
    unified_alike (Some a) (Some b) l = l
    unified_alike _ _ l = absurd l
