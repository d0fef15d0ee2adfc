-- Unification and reduction bring no number of their own: where each number of a name or a variable is below n, so it is after.
use Rattle.std.proofs.Common.{◌<◌, ℕ, zero, suc, true, false, List, [], ◌∷◌, ◌++◌, map}
use Rattle.std.specs.Prelude.{if◌then◌else◌, ◌==◌, nat_lt, Option, Some, None}
use Rattle.ap_defs.specs.Freshness.{Conds, add_cond, add_conds, both as both_lists, cond_before, cond_eq, reduce, var_eq}
use Rattle.ap_defs.specs.Permutations.{act_name, add_name, differing, disagreement, inverse, left_name, name_before, name_eq, names_of, right_name, swap_name, swap_of}
use Rattle.ap_defs.specs.Renaming.{AreBelow, AreBindingsBelow, AreSwapsBelow, IsBelow}
use Rattle.ap_defs.specs.Substitution.{Binding, Equation, Problem, bound_term, moved, occurs, put, put_binding, put_equation, put_problem, under, ◌#◌, ◌:=◌, ◌≐◌}
use Rattle.ap_defs.specs.Terms.{NominalTerm, abs, act_term, app, name, pair, susp, unit}
use Rattle.ap_defs.specs.Unification.{Ending, Rule, Stage, Unified, ending_after, apply_rule, bind, clash, ending, equations_of, finish, first_stage, fresh_for, problem_of, reduce_all, replace, rule, run, solved, steps_for, unfinished, unify, unless_occurs, unsolvable, unified_under}
use Rattle.ap_defs.specs.declared.terms.Cond.{Cond}
use Rattle.ap_defs.specs.declared.terms.Name.{Name}
use Rattle.ap_defs.specs.declared.terms.Swap.{Swap}
use Rattle.ap_defs.specs.declared.terms.Var.{Var}
use Rattle.ap_search.specs.FitStates.{AreCondsBelow}

module _ (n : ℕ) where
  abbrev AreNamesBelow : List Name → Type 0
  AreNamesBelow [] = Unit {0}
  AreNamesBelow (a ∷ as') = (a.num < n) × AreNamesBelow as'

  abbrev AreEquationsBelow : List Equation → Type 0
  AreEquationsBelow [] = Unit {0}
  AreEquationsBelow ((t ≐ u) ∷ es) = (IsBelow n t × IsBelow n u) × AreEquationsBelow es

  abbrev pub AreProblemsBelow : List Problem → Type 0
  AreProblemsBelow [] = Unit {0}
  AreProblemsBelow ((a # t) ∷ ps) = ((a.num < n) × IsBelow n t) × AreProblemsBelow ps

  abbrev IsRuleBelow : Rule → Type 0
  IsRuleBelow (replace es ps) = AreEquationsBelow es × AreProblemsBelow ps
  IsRuleBelow (bind x t) = (x.num < n) × IsBelow n t
  IsRuleBelow clash = Unit {0}

  -- Permutations.
  pub swaps_below-append : (p q : List Swap) → AreSwapsBelow n p → AreSwapsBelow n q → AreSwapsBelow n (p ++ q)
  swaps_below-append [] q h k = k
  swaps_below-append (s ∷ p) q h k = (h.0, h.1, swaps_below-append p q h.2 k)

  pub inverse_below : (p : List Swap) → AreSwapsBelow n p → AreSwapsBelow n (inverse p)
  inverse_below [] h = tt
  inverse_below (s ∷ p) h = swaps_below-append (inverse p) (s ∷ []) (inverse_below p h.2) (h.0, h.1, tt)

  swap_name_below : (s : Swap) (a : Name) → s.left < n → s.right < n → a.num < n → (swap_name s a).num < n
  unfolding swap_name
  swap_name_below s a h k l =
      elim (name_eq a (left_name s)) as (λ b. (if b then right_name s else (if name_eq a (right_name s) then left_name s else a)).num < n) [
        | true ↦ k
        | false ↦ elim (name_eq a (right_name s)) as (λ b. (if b then left_name s else a).num < n) [ true ↦ h | false ↦ l ]
      ]

  pub act_name_below : (p : List Swap) (a : Name) → AreSwapsBelow n p → a.num < n → (act_name p a).num < n
  act_name_below [] a h l = l
  act_name_below (s ∷ p) a h l = swap_name_below s (act_name p a) h.0 h.1 (act_name_below p a h.2 l)

  pub act_below : (p : List Swap) → AreSwapsBelow n p → (t : NominalTerm) → IsBelow n t → IsBelow n (act_term p t)
  act_below p h unit k = tt
  act_below p h (name a) k = act_name_below p a h k
  act_below p h (pair t u) k = (act_below p h t k.0, act_below p h u k.1)
  act_below p h (app f t) k = act_below p h t k
  act_below p h (abs a t) k = (act_name_below p a h k.0, act_below p h t k.1)
  act_below p h (susp q x) k = (swaps_below-append p q h k.0, k.1)

  names_of_below : (p : List Swap) → AreSwapsBelow n p → AreNamesBelow (names_of p)
  names_of_below [] h = tt
  names_of_below (s ∷ p) h = (h.0, (h.1, names_of_below p h.2))

  names_below-append : (as' bs : List Name) → AreNamesBelow as' → AreNamesBelow bs → AreNamesBelow (as' ++ bs)
  names_below-append [] bs h k = k
  names_below-append (a ∷ as') bs h k = (h.0, names_below-append as' bs h.1 k)

  add_name_below : (a : Name) (bs : List Name) → a.num < n → AreNamesBelow bs → AreNamesBelow (add_name a bs)
  add_name_below a [] l h = (l, tt)
  add_name_below a (b ∷ bs) l h =
      elim (name_eq a b) as (λ v. AreNamesBelow (if v then (b ∷ bs) else (if name_before a b then (a ∷ b ∷ bs) else (b ∷ add_name a bs)))) [
        | true ↦ h
        | false ↦ elim (name_before a b) as (λ v. AreNamesBelow (if v then (a ∷ b ∷ bs) else (b ∷ add_name a bs))) [ true ↦ (l, h) | false ↦ (h.0, add_name_below a bs l h.1) ]
      ]

  differing_below : (p q : List Swap) (as' : List Name) → AreNamesBelow as' → AreNamesBelow (differing p q as')
  differing_below p q [] h = tt
  differing_below p q (a ∷ as') h =
      elim (name_eq (act_name p a) (act_name q a)) as (λ v. AreNamesBelow (if v then differing p q as' else add_name a (differing p q as'))) [
        | true ↦ differing_below p q as' h.1
        | false ↦ add_name_below a (differing p q as') h.0 (differing_below p q as' h.1)
      ]

  disagreement_below : (p q : List Swap) → AreSwapsBelow n p → AreSwapsBelow n q → AreNamesBelow (disagreement p q)
  disagreement_below p q h k = differing_below p q (names_of p ++ names_of q) (names_below-append (names_of p) (names_of q) (names_of_below p h) (names_of_below q k))

  -- Terms that are put for variables.
  put_below : (x : Var) (v : NominalTerm) → IsBelow n v → (t : NominalTerm) → IsBelow n t → IsBelow n (put x v t)
  put_below x v h unit k = tt
  put_below x v h (name a) k = k
  put_below x v h (pair t u) k = (put_below x v h t k.0, put_below x v h u k.1)
  put_below x v h (app f t) k = put_below x v h t k
  put_below x v h (abs a t) k = (k.0, put_below x v h t k.1)
  put_below x v h (susp p y) k = elim (var_eq x y) as (λ b. IsBelow n (if b then act_term p v else susp p y)) [ true ↦ act_below p k.0 v h | false ↦ k ]

  moved_below : (bs : List Binding) (p : List Swap) (x : Var) → AreBindingsBelow n bs → AreSwapsBelow n p → x.num < n → IsBelow n (moved p x (bound_term bs x))
  moved_below [] p x h k l = (k, l)
  moved_below ((y := t) ∷ bs) p x h k l =
      elim (var_eq x y) as (λ b. IsBelow n (moved p x (if b then Some t else bound_term bs x))) [ true ↦ act_below p k t h.0.1 | false ↦ moved_below bs p x h.1 k l ]

  pub under_below : (bs : List Binding) → AreBindingsBelow n bs → (t : NominalTerm) → IsBelow n t → IsBelow n (under bs t)
  under_below bs h unit k = tt
  under_below bs h (name a) k = k
  under_below bs h (pair t u) k = (under_below bs h t k.0, under_below bs h u k.1)
  under_below bs h (app f t) k = under_below bs h t k
  under_below bs h (abs a t) k = (k.0, under_below bs h t k.1)
  under_below bs h (susp p x) k = moved_below bs p x h k.0 k.1

  -- Conditions.
  abbrev pub AreSomeBelow : Option (List Cond) → Type 0
  AreSomeBelow None = Unit {0}
  AreSomeBelow (Some cs) = AreCondsBelow n cs

  conds_below-append : (cs ds : List Cond) → AreCondsBelow n cs → AreCondsBelow n ds → AreCondsBelow n (cs ++ ds)
  conds_below-append [] ds h k = k
  conds_below-append (c ∷ cs) ds h k = (h.0, conds_below-append cs ds h.1 k)

  both_below : (o p : Option (List Cond)) → AreSomeBelow o → AreSomeBelow p → AreSomeBelow (both_lists o p)
  both_below None p h k = tt
  both_below (Some cs) None h k = tt
  both_below (Some cs) (Some ds) h k = conds_below-append cs ds h k

  pub reduce_below : (a : Name) → a.num < n → (t : NominalTerm) → IsBelow n t → AreSomeBelow (reduce a t)
  reduce_below a l unit h = tt
  reduce_below a l (name b) h = elim (name_eq a b) as (λ v. AreSomeBelow (if v then None else Some [])) [ true ↦ tt | false ↦ tt ]
  reduce_below a l (pair t u) h = both_below (reduce a t) (reduce a u) (reduce_below a l t h.0) (reduce_below a l u h.1)
  reduce_below a l (app f t) h = reduce_below a l t h
  reduce_below a l (abs b t) h = elim (name_eq a b) as (λ v. AreSomeBelow (if v then Some [] else reduce a t)) [ true ↦ tt | false ↦ reduce_below a l t h.1 ]
  reduce_below a l (susp p x) h = ((act_name_below (inverse p) a (inverse_below p h.0) l, h.1), tt)

  pub reduce_all_below : (bs : List Binding) → AreBindingsBelow n bs → (ps : List Problem) → AreProblemsBelow ps → AreSomeBelow (reduce_all bs ps)
  reduce_all_below bs h [] k = tt
  reduce_all_below bs h ((a # t) ∷ ps) k =
      both_below (reduce a (under bs t)) (reduce_all bs ps) (reduce_below a k.0.0 (under bs t) (under_below bs h t k.0.1)) (reduce_all_below bs h ps k.1)

  add_cond_below : (c : Cond) (ds : Conds) → (c.name.num < n) × (c.var.num < n) → AreCondsBelow n ds → AreCondsBelow n (add_cond c ds)
  add_cond_below c [] h k = (h, tt)
  add_cond_below c (d ∷ ds) h k =
      elim (cond_eq c d) as (λ v. AreCondsBelow n (if v then (d ∷ ds) else (if cond_before c d then (c ∷ d ∷ ds) else (d ∷ add_cond c ds)))) [
        | true ↦ k
        | false ↦ elim (cond_before c d) as (λ v. AreCondsBelow n (if v then (c ∷ d ∷ ds) else (d ∷ add_cond c ds))) [ true ↦ (h, k) | false ↦ (k.0, add_cond_below c ds h k.1) ]
      ]

  pub add_conds_below : (cs : List Cond) (ds : Conds) → AreCondsBelow n cs → AreCondsBelow n ds → AreCondsBelow n (add_conds cs ds)
  add_conds_below [] ds h k = k
  add_conds_below (c ∷ cs) ds h k = add_cond_below c (add_conds cs ds) h.0 (add_conds_below cs ds h.1 k)

  -- Rules.
  fresh_for_below : (x : Var) → x.num < n → (cs : List Name) → AreNamesBelow cs → AreProblemsBelow (map (fresh_for x) cs)
  fresh_for_below x l [] h = tt
  fresh_for_below x l (c ∷ cs) h = ((h.0, (tt, l)), fresh_for_below x l cs h.1)

  bind_below : (p : List Swap) (x : Var) (t : NominalTerm) → AreSwapsBelow n p → x.num < n → IsBelow n t → IsRuleBelow (unless_occurs x t (act_term (inverse p) t))
  bind_below p x t h l k =
      elim (occurs x t) as (λ b. IsRuleBelow (if b then clash else bind x (act_term (inverse p) t))) [
        | true ↦ tt
        | false ↦ (l, act_below (inverse p) (inverse_below p h) t k)
      ]

  rule_below : (t u : NominalTerm) → IsBelow n t → IsBelow n u → IsRuleBelow (rule t u)
  rule_below unit unit h k = (tt, tt)
  rule_below (name a) (name b) h k = elim (name_eq a b) as (λ v. IsRuleBelow (if v then replace [] [] else clash)) [ true ↦ (tt, tt) | false ↦ tt ]
  rule_below (pair t u) (pair v w) h k = (((h.0, k.0), ((h.1, k.1), tt)), tt)
  rule_below (app f t) (app g u) h k = elim (f == g) as (λ v. IsRuleBelow (if v then replace ((t ≐ u) ∷ []) [] else clash)) [ true ↦ (((h, k), tt), tt) | false ↦ tt ]
  rule_below (abs a t) (abs b u) h k =
      elim (name_eq a b) as (λ v. IsRuleBelow (if v then replace ((t ≐ u) ∷ []) [] else (if a.sort == b.sort then replace ((t ≐ act_term (swap_of a b ∷ []) u) ∷ []) ((a # u) ∷ []) else clash))) [
        | true ↦ (((h.1, k.1), tt), tt)
        | false ↦ elim (a.sort == b.sort) as (λ v. IsRuleBelow (if v then replace ((t ≐ act_term (swap_of a b ∷ []) u) ∷ []) ((a # u) ∷ []) else clash)) [
          | true ↦ (((h.1, act_below (swap_of a b ∷ []) (h.0, k.0, tt) u k.1), tt), ((h.0, k.1), tt))
          | false ↦ tt
        ]
      ]
  rule_below (susp p x) (susp q y) h k =
      elim (var_eq x y) as (λ b. IsRuleBelow (if b then replace [] (map (fresh_for x) (disagreement p q)) else (if nat_lt x.num y.num then bind y (susp (inverse q ++ p) x) else bind x (susp (inverse p ++ q) y)))) [
        | true ↦ (tt, fresh_for_below x h.1 (disagreement p q) (disagreement_below p q h.0 k.0))
        | false ↦ elim (nat_lt x.num y.num) as (λ b. IsRuleBelow (if b then bind y (susp (inverse q ++ p) x) else bind x (susp (inverse p ++ q) y))) [
          | true ↦ (k.1, (swaps_below-append (inverse q) p (inverse_below q k.0) h.0, h.1))
          | false ↦ (h.1, (swaps_below-append (inverse p) q (inverse_below p h.0) k.0, k.1))
        ]
      ]
  rule_below (susp p x) unit h k = bind_below p x unit h.0 h.1 k
  rule_below (susp p x) (name a) h k = bind_below p x (name a) h.0 h.1 k
  rule_below (susp p x) (pair t u) h k = bind_below p x (pair t u) h.0 h.1 k
  rule_below (susp p x) (app f t) h k = bind_below p x (app f t) h.0 h.1 k
  rule_below (susp p x) (abs a t) h k = bind_below p x (abs a t) h.0 h.1 k
  rule_below unit (susp q y) h k = bind_below q y unit k.0 k.1 h
  rule_below (name a) (susp q y) h k = bind_below q y (name a) k.0 k.1 h
  rule_below (pair t u) (susp q y) h k = bind_below q y (pair t u) k.0 k.1 h
  rule_below (app f t) (susp q y) h k = bind_below q y (app f t) k.0 k.1 h
  rule_below (abs a t) (susp q y) h k = bind_below q y (abs a t) k.0 k.1 h
  rule_below _ _ h k = tt

  -- Runs.
  equations_below-append : (es fs : List Equation) → AreEquationsBelow es → AreEquationsBelow fs → AreEquationsBelow (es ++ fs)
  equations_below-append [] fs h k = k
  equations_below-append ((t ≐ u) ∷ es) fs h k = (h.0, equations_below-append es fs h.1 k)

  problems_below-append : (ps qs : List Problem) → AreProblemsBelow ps → AreProblemsBelow qs → AreProblemsBelow (ps ++ qs)
  problems_below-append [] qs h k = k
  problems_below-append ((a # t) ∷ ps) qs h k = (h.0, problems_below-append ps qs h.1 k)

  equations_put_below : (x : Var) (v : NominalTerm) → IsBelow n v → (es : List Equation) → AreEquationsBelow es → AreEquationsBelow (map (put_equation x v) es)
  equations_put_below x v h [] k = tt
  equations_put_below x v h ((t ≐ u) ∷ es) k = ((put_below x v h t k.0.0, put_below x v h u k.0.1), equations_put_below x v h es k.1)

  problems_put_below : (x : Var) (v : NominalTerm) → IsBelow n v → (ps : List Problem) → AreProblemsBelow ps → AreProblemsBelow (map (put_problem x v) ps)
  problems_put_below x v h [] k = tt
  problems_put_below x v h ((a # t) ∷ ps) k = ((k.0.0, put_below x v h t k.0.1), problems_put_below x v h ps k.1)

  bindings_put_below : (x : Var) (v : NominalTerm) → IsBelow n v → (bs : List Binding) → AreBindingsBelow n bs → AreBindingsBelow n (map (put_binding x v) bs)
  bindings_put_below x v h [] k = tt
  bindings_put_below x v h ((y := t) ∷ bs) k = ((k.0.0, put_below x v h t k.0.1), bindings_put_below x v h bs k.1)

  abbrev IsStageBelow : Stage → Type 0
  IsStageBelow r = AreEquationsBelow r.equations × AreProblemsBelow r.problems × AreBindingsBelow n r.bindings

  abbrev IsEndingBelow : Ending → Type 0
  IsEndingBelow unfinished = Unit {0}
  IsEndingBelow unsolvable = Unit {0}
  IsEndingBelow (solved r) = IsStageBelow r

  after_below : (k : ℕ) → ((r : Stage) → IsStageBelow r → IsEndingBelow (run k r)) → (r : Rule) (es : List Equation) (ps : List Problem) (bs : List Binding) (whole : Stage)
      → IsRuleBelow r → AreEquationsBelow es → AreProblemsBelow ps → AreBindingsBelow n bs → IsEndingBelow (ending_after (run k) whole (apply_rule r es ps bs))
  after_below k go (replace new qs) es ps bs whole s e p b = go _ (equations_below-append new es s.0 e, problems_below-append ps qs p s.1, b)
  after_below k go (bind x v) es ps bs whole s e p b =
      go _ (equations_put_below x v s.1 es e, problems_put_below x v s.1 ps p, (s, bindings_put_below x v s.1 bs b))
  after_below k go clash es ps bs whole s e p b = tt

  step_below : (k : ℕ) → ((r : Stage) → IsStageBelow r → IsEndingBelow (run k r)) → (es : List Equation) (ps : List Problem) (bs : List Binding)
      → AreEquationsBelow es → AreProblemsBelow ps → AreBindingsBelow n bs → IsEndingBelow (run (suc k) (record { equations = es; problems = ps; bindings = bs }))
  step_below k go [] ps bs e p b = (e, p, b)
  step_below k go ((t ≐ u) ∷ es) ps bs e p b =
      after_below k go (rule t u) es ps bs (record { equations = (t ≐ u) ∷ es; problems = ps; bindings = bs }) (rule_below t u e.0.0 e.0.1) e.1 p b

  run_below : (k : ℕ) (r : Stage) → IsStageBelow r → IsEndingBelow (run k r)
  run_below zero r h = tt
  run_below (suc k) r h = step_below k (run_below k) r.equations r.problems r.bindings h.0 h.1 h.2

  equations_of_below : (bs : List Binding) → AreBindingsBelow n bs → (ts us : List NominalTerm) → AreBelow n ts → AreBelow n us → AreEquationsBelow (equations_of bs ts us)
  equations_of_below bs h [] us k l = tt
  equations_of_below bs h (t ∷ ts) [] k l = tt
  equations_of_below bs h (t ∷ ts) (u ∷ us) k l = ((under_below bs h t k.0, under_below bs h u l.0), equations_of_below bs h ts us k.1 l.1)

  conds_problems_below : (ds : Conds) → AreCondsBelow n ds → AreProblemsBelow (map problem_of ds)
  conds_problems_below [] h = tt
  conds_problems_below (d ∷ ds) h = ((h.0.0, (tt, h.0.1)), conds_problems_below ds h.1)

  abbrev pub IsUnifiedBelow : Option Unified → Type 0
  IsUnifiedBelow None = Unit {0}
  IsUnifiedBelow (Some r) = AreBindingsBelow n r.bindings × AreCondsBelow n r.conditions

  with_below : (bs : List Binding) (o : Option (List Cond)) → AreBindingsBelow n bs → AreSomeBelow o → IsUnifiedBelow (unified_under bs o)
  with_below bs None h k = tt
  with_below bs (Some cs) h k = (h, add_conds_below cs [] k tt)

  finish_below : (ds : Conds) (e : Ending) → AreCondsBelow n ds → IsEndingBelow e → IsUnifiedBelow (finish ds e)
  finish_below ds unfinished h k = tt
  finish_below ds unsolvable h k = tt
  finish_below ds (solved r) h k =
      with_below r.bindings (reduce_all r.bindings (map problem_of ds ++ r.problems)) k.2
      (reduce_all_below r.bindings k.2 (map problem_of ds ++ r.problems) (problems_below-append (map problem_of ds) r.problems (conds_problems_below ds h) k.1))

  -- unification brings no number of its own
  pub unify_below : (bs : List Binding) (ds : Conds) (ts us : List NominalTerm) → AreBindingsBelow n bs → AreCondsBelow n ds → AreBelow n ts → AreBelow n us
      → IsUnifiedBelow (unify bs ds ts us)
  unfolding unify ending
  unify_below bs ds ts us b c t u =
      let first = first_stage bs ts us in
      finish_below ds (ending first) c (run_below (steps_for first) first (equations_of_below bs b ts us t u, tt, b))
