-- Unification and reduction keep types.
use Rattle.std.proofs.Common.{subst, ◌≡◌, ℕ, zero, suc, true, false, List, [], ◌∷◌, ◌++◌, map, refl, sym, ap, ◌∙◌}
use Rattle.std.specs.Prelude.{if◌then◌else◌, ◌==◌, nat_lt, Option, Some, None}
use Rattle.ap_defs.specs.Freshness.{Conds, add_cond, add_conds, both as both_lists, cond_before, cond_eq, reduce, var_eq}
use Rattle.ap_defs.specs.Permutations.{act_name, add_name, differing, disagreement, inverse, left_name, name_before, name_eq, names_of, right_name, swap_of}
use Rattle.ap_defs.specs.Substitution.{Binding, Equation, Problem, occurs, put_binding, put_equation, put_problem, under, ◌#◌, ◌:=◌, ◌≐◌}
use Rattle.ap_defs.specs.Terms.{NominalTerm, abs, act_term, app, name, pair, susp, unit}
use Rattle.ap_defs.specs.Types as types
use Rattle.ap_defs.specs.Types.{NominalConstructor, NominalKind, NominalType}
use Rattle.ap_defs.specs.Typing.{Want, one}
use Rattle.ap_defs.specs.Unification.{Ending, Rule, Stage, Unified, ending_after, apply_rule, bind, clash, ending, equations_of, finish, first_stage, fresh_for, problem_of, reduce_all, replace, rule, run, solved, steps_for, unfinished, unify, unless_occurs, unsolvable, unified_under}
use Rattle.ap_defs.specs.declared.terms.Cond.{Cond}
use Rattle.ap_defs.specs.declared.terms.Name.{Name}
use Rattle.ap_defs.specs.declared.terms.Swap.{Swap}
use Rattle.ap_defs.specs.declared.terms.Var.{Var}
use Rattle.ap_program.specs.RawTyping.{AreSwapsOf, HasTermType, IsNameOf, IsTypedTerm, IsVarOf}
use Rattle.ap_program.specs.Typed.{HaveTypes}
use Rattle.ap_theory.proofs.TermLemmas.{number_same}
use Rattle.ap_search.specs.TypedStates.{AreTypedBindings, AreTypedConds}
use Rattle.ap_search.proofs.TypingLemmas.{abs_view, act_name_of, act_typed, app_view, inverse_swaps_of, own_sort, pair_view, put_typed, susp_view, swaps_of-append, under_typed}

module _ (cs : List NominalConstructor) (kinds : List NominalKind) where
  abbrev pub AreNamesOf : List Name → Type 0
  AreNamesOf [] = Unit {0}
  AreNamesOf (a ∷ as') = IsNameOf kinds a a.sort × AreNamesOf as'

  abbrev AreTypedEquations : List Equation → Type 0
  AreTypedEquations [] = Unit {0}
  AreTypedEquations ((t ≐ u) ∷ es) = ((w : Want) × IsTypedTerm cs kinds t w × IsTypedTerm cs kinds u w) × AreTypedEquations es

  abbrev pub AreTypedProblems : List Problem → Type 0
  AreTypedProblems [] = Unit {0}
  AreTypedProblems ((a # t) ∷ ps) = (IsNameOf kinds a a.sort × ((w : Want) × IsTypedTerm cs kinds t w)) × AreTypedProblems ps

  abbrev IsTypedRule : Rule → Type 0
  IsTypedRule (replace es ps) = AreTypedEquations es × AreTypedProblems ps
  IsTypedRule (bind x t) = (a : NominalType) × IsVarOf kinds x a × IsTypedTerm cs kinds t (one a)
  IsTypedRule clash = Unit {0}

  -- Names on which two permutations differ.
  pub names_of_typed : (p : List Swap) → AreSwapsOf kinds p → AreNamesOf (names_of p)
  names_of_typed [] h = tt
  names_of_typed (s ∷ p) h = (own_sort cs kinds (left_name s) s.sort h.0, (own_sort cs kinds (right_name s) s.sort h.1, names_of_typed p h.2))

  names_typed-append : (as' bs : List Name) → AreNamesOf as' → AreNamesOf bs → AreNamesOf (as' ++ bs)
  names_typed-append [] bs h k = k
  names_typed-append (a ∷ as') bs h k = (h.0, names_typed-append as' bs h.1 k)

  add_name_typed : (a : Name) (bs : List Name) → IsNameOf kinds a a.sort → AreNamesOf bs → AreNamesOf (add_name a bs)
  add_name_typed a [] l h = (l, tt)
  add_name_typed a (b ∷ bs) l h =
      elim (name_eq a b) as (λ v. AreNamesOf (if v then (b ∷ bs) else (if name_before a b then (a ∷ b ∷ bs) else (b ∷ add_name a bs)))) [
        | true ↦ h
        | false ↦ elim (name_before a b) as (λ v. AreNamesOf (if v then (a ∷ b ∷ bs) else (b ∷ add_name a bs))) [ true ↦ (l, h) | false ↦ (h.0, add_name_typed a bs l h.1) ]
      ]

  differing_typed : (p q : List Swap) (as' : List Name) → AreNamesOf as' → AreNamesOf (differing p q as')
  differing_typed p q [] h = tt
  differing_typed p q (a ∷ as') h =
      elim (name_eq (act_name p a) (act_name q a)) as (λ v. AreNamesOf (if v then differing p q as' else add_name a (differing p q as'))) [
        | true ↦ differing_typed p q as' h.1
        | false ↦ add_name_typed a (differing p q as') h.0 (differing_typed p q as' h.1)
      ]

  pub disagreement_typed : (p q : List Swap) → AreSwapsOf kinds p → AreSwapsOf kinds q → AreNamesOf (disagreement p q)
  disagreement_typed p q h k = differing_typed p q (names_of p ++ names_of q) (names_typed-append (names_of p) (names_of q) (names_of_typed p h) (names_of_typed q k))

  -- Conditions.
  abbrev pub AreTypedSome : Option (List Cond) → Type 0
  AreTypedSome None = Unit {0}
  AreTypedSome (Some ds) = AreTypedConds kinds ds

  conds_typed-append : (ds es : List Cond) → AreTypedConds kinds ds → AreTypedConds kinds es → AreTypedConds kinds (ds ++ es)
  conds_typed-append [] es h k = k
  conds_typed-append (d ∷ ds) es h k = (h.0, conds_typed-append ds es h.1 k)

  both_typed : (o p : Option (List Cond)) → AreTypedSome o → AreTypedSome p → AreTypedSome (both_lists o p)
  both_typed None p h k = tt
  both_typed (Some ds) None h k = tt
  both_typed (Some ds) (Some es) h k = conds_typed-append ds es h k

  pub reduce_typed : (a : Name) → IsNameOf kinds a a.sort → (t : NominalTerm) (w : Want) → IsTypedTerm cs kinds t w → AreTypedSome (reduce a t)
  reduce_typed a l unit w h = tt
  reduce_typed a l (name b) w h = elim (name_eq a b) as (λ v. AreTypedSome (if v then None else Some [])) [ true ↦ tt | false ↦ tt ]
  reduce_typed a l (pair t u) w h =
      let v = pair_view cs kinds t u w h in
      both_typed (reduce a t) (reduce a u) (reduce_typed a l t v.first v.left) (reduce_typed a l u v.second v.right)
  reduce_typed a l (app f t) w h = let v = app_view cs kinds f t w h in reduce_typed a l t v.inner v.here
  reduce_typed a l (abs b t) w h =
      let z = abs_view cs kinds b t w h in
      elim (name_eq a b) as (λ v. AreTypedSome (if v then Some [] else reduce a t)) [ true ↦ tt | false ↦ reduce_typed a l t (one z.1) z.4 ]
  reduce_typed a l (susp p x) w h =
      let z = susp_view cs kinds p x w h in
      ((own_sort cs kinds (act_name (inverse p) a) a.sort (act_name_of cs kinds (inverse p) a a.sort (inverse_swaps_of cs kinds p z.2) l), (z.0, z.3)), tt)

  pub reduce_all_typed : (bs : List Binding) → AreTypedBindings cs kinds bs → (ps : List Problem) → AreTypedProblems ps → AreTypedSome (reduce_all bs ps)
  reduce_all_typed bs h [] k = tt
  reduce_all_typed bs h ((a # t) ∷ ps) k =
      both_typed (reduce a (under bs t)) (reduce_all bs ps) (reduce_typed a k.0.0 (under bs t) k.0.1.0 (under_typed cs kinds bs h t k.0.1.0 k.0.1.1)) (reduce_all_typed bs h ps k.1)

  add_cond_typed : (c : Cond) (ds : Conds) → IsNameOf kinds c.name c.name.sort × ((a : NominalType) × IsVarOf kinds c.var a) → AreTypedConds kinds ds
      → AreTypedConds kinds (add_cond c ds)
  add_cond_typed c [] h k = (h, tt)
  add_cond_typed c (d ∷ ds) h k =
      elim (cond_eq c d) as (λ v. AreTypedConds kinds (if v then (d ∷ ds) else (if cond_before c d then (c ∷ d ∷ ds) else (d ∷ add_cond c ds)))) [
        | true ↦ k
        | false ↦ elim (cond_before c d) as (λ v. AreTypedConds kinds (if v then (c ∷ d ∷ ds) else (d ∷ add_cond c ds))) [ true ↦ (h, k) | false ↦ (k.0, add_cond_typed c ds h k.1) ]
      ]

  pub add_conds_typed : (ds es : Conds) → AreTypedConds kinds ds → AreTypedConds kinds es → AreTypedConds kinds (add_conds ds es)
  add_conds_typed [] es h k = k
  add_conds_typed (d ∷ ds) es h k = add_cond_typed d (add_conds ds es) h.0 (add_conds_typed ds es h.1 k)

  -- Rules.
  fresh_for_typed : (x : Var) (a : NominalType) → IsVarOf kinds x a → (as' : List Name) → AreNamesOf as' → AreTypedProblems (map (fresh_for x) as')
  fresh_for_typed x a l [] h = tt
  fresh_for_typed x a l (c ∷ as') h = ((h.0, (one a, (tt, l))), fresh_for_typed x a l as' h.1)

  bind_typed : (p : List Swap) (x : Var) (t : NominalTerm) (w : Want) → IsTypedTerm cs kinds (susp p x) w → IsTypedTerm cs kinds t w
      → IsTypedRule (unless_occurs x t (act_term (inverse p) t))
  bind_typed p x t w h k =
      let z = susp_view cs kinds p x w h in
      elim (occurs x t) as (λ b. IsTypedRule (if b then clash else bind x (act_term (inverse p) t))) [
        | true ↦ tt
        | false ↦ (z.0, z.3, act_typed cs kinds (inverse p) (inverse_swaps_of cs kinds p z.2) t (one z.0) (subst (λ (v : Want). IsTypedTerm cs kinds t v) z.1 k))
      ]

  rule_typed : (t u : NominalTerm) (w : Want) → IsTypedTerm cs kinds t w → IsTypedTerm cs kinds u w → IsTypedRule (rule t u)
  rule_typed unit unit w h k = (tt, tt)
  rule_typed (name a) (name b) w h k = elim (name_eq a b) as (λ v. IsTypedRule (if v then replace [] [] else clash)) [ true ↦ (tt, tt) | false ↦ tt ]
  rule_typed (pair t u) (pair v z) w h k =
      let view = pair_view cs kinds t u w h in
      let second = view.other v z k in
      (((view.first, view.left, second.0), ((view.second, view.right, second.1), tt)), tt)
  rule_typed (app f t) (app g u) w h k =
      let view = app_view cs kinds f t w h in
      elim (f == g) as (λ v. (f == g) ≡ v → IsTypedRule (if v then replace ((t ≐ u) ∷ []) [] else clash)) [
        | true ↦ λ e.
            let same : IsTypedTerm cs kinds (app f u) w = subst (λ (n : ℕ). IsTypedTerm cs kinds (app n u) w) (sym (number_same f g e)) k in
            (((view.inner, view.here, view.other u same), tt), tt)
        | false ↦ λ e. tt
      ] refl
  rule_typed (abs a t) (abs b u) w h k =
      let x = abs_view cs kinds a t w h in
      let y = abs_view cs kinds b u w k in
      let both = sym x.2 ∙ y.2 in
      let types_same : x.1 ≡ y.1 = cc in
      let sorts_same : x.0 ≡ y.0 = cc in
      let body : IsTypedTerm cs kinds u (one x.1) = subst (λ (c : NominalType). IsTypedTerm cs kinds u (one c)) (sym types_same) y.4 in
      elim (name_eq a b) as (λ v. IsTypedRule (if v then replace ((t ≐ u) ∷ []) [] else (if a.sort == b.sort then replace ((t ≐ act_term (swap_of a b ∷ []) u) ∷ []) ((a # u) ∷ []) else clash))) [
        | true ↦ (((one x.1, x.4, body), tt), tt)
        | false ↦ elim (a.sort == b.sort) as (λ v. IsTypedRule (if v then replace ((t ≐ act_term (swap_of a b ∷ []) u) ∷ []) ((a # u) ∷ []) else clash)) [
          | true ↦
              let left : IsNameOf kinds a a.sort = own_sort cs kinds a x.0 x.3 in
              let kind : a.sort ≡ y.0 = x.3.0 ∙ sorts_same in
              let right : IsNameOf kinds (right_name (swap_of a b)) a.sort = (refl, y.3.1 ∙ ap (λ z. Some (types.name z)) (sym kind)) in
              (((one x.1, x.4, act_typed cs kinds (swap_of a b ∷ []) (left, right, tt) u (one x.1) body), tt), ((left, (one x.1, body)), tt))
          | false ↦ tt
        ]
      ]
  rule_typed (susp p x) (susp q y) w h k =
      let v = susp_view cs kinds p x w h in
      let z = susp_view cs kinds q y w k in
      let same : v.0 ≡ z.0 = one_is (sym v.1 ∙ z.1) in
      elim (var_eq x y) as (λ b. IsTypedRule (if b then replace [] (map (fresh_for x) (disagreement p q)) else (if nat_lt x.num y.num then bind y (susp (inverse q ++ p) x) else bind x (susp (inverse p ++ q) y)))) [
        | true ↦ (tt, fresh_for_typed x v.0 v.3 (disagreement p q) (disagreement_typed p q v.2 z.2))
        | false ↦ elim (nat_lt x.num y.num) as (λ b. IsTypedRule (if b then bind y (susp (inverse q ++ p) x) else bind x (susp (inverse p ++ q) y))) [
          | true ↦ (z.0, z.3, (swaps_of-append cs kinds (inverse q) p (inverse_swaps_of cs kinds q z.2) v.2, subst (IsVarOf kinds x) same v.3))
          | false ↦ (v.0, v.3, (swaps_of-append cs kinds (inverse p) q (inverse_swaps_of cs kinds p v.2) z.2, subst (IsVarOf kinds y) (sym same) z.3))
        ]
      ]
    where
      one_is : {a b : NominalType} → one a ≡ one b → a ≡ b
      one_is e = cc
  rule_typed (susp p x) unit w h k = bind_typed p x unit w h k
  rule_typed (susp p x) (name a) w h k = bind_typed p x (name a) w h k
  rule_typed (susp p x) (pair t u) w h k = bind_typed p x (pair t u) w h k
  rule_typed (susp p x) (app f t) w h k = bind_typed p x (app f t) w h k
  rule_typed (susp p x) (abs a t) w h k = bind_typed p x (abs a t) w h k
  rule_typed unit (susp q y) w h k = bind_typed q y unit w k h
  rule_typed (name a) (susp q y) w h k = bind_typed q y (name a) w k h
  rule_typed (pair t u) (susp q y) w h k = bind_typed q y (pair t u) w k h
  rule_typed (app f t) (susp q y) w h k = bind_typed q y (app f t) w k h
  rule_typed (abs a t) (susp q y) w h k = bind_typed q y (abs a t) w k h
  rule_typed _ _ w h k = tt

  -- Runs.
  equations_typed-append : (es fs : List Equation) → AreTypedEquations es → AreTypedEquations fs → AreTypedEquations (es ++ fs)
  equations_typed-append [] fs h k = k
  equations_typed-append ((t ≐ u) ∷ es) fs h k = (h.0, equations_typed-append es fs h.1 k)

  problems_typed-append : (ps qs : List Problem) → AreTypedProblems ps → AreTypedProblems qs → AreTypedProblems (ps ++ qs)
  problems_typed-append [] qs h k = k
  problems_typed-append ((a # t) ∷ ps) qs h k = (h.0, problems_typed-append ps qs h.1 k)

  module _ (x : Var) (v : NominalTerm) (a : NominalType) (is : IsVarOf kinds x a) (has : IsTypedTerm cs kinds v (one a)) where
    equations_put_typed : (es : List Equation) → AreTypedEquations es → AreTypedEquations (map (put_equation x v) es)
    equations_put_typed [] k = tt
    equations_put_typed ((t ≐ u) ∷ es) k =
        ((k.0.0, put_typed cs kinds x v a is has t k.0.0 k.0.1, put_typed cs kinds x v a is has u k.0.0 k.0.2), equations_put_typed es k.1)

    problems_put_typed : (ps : List Problem) → AreTypedProblems ps → AreTypedProblems (map (put_problem x v) ps)
    problems_put_typed [] k = tt
    problems_put_typed ((c # t) ∷ ps) k = ((k.0.0, (k.0.1.0, put_typed cs kinds x v a is has t k.0.1.0 k.0.1.1)), problems_put_typed ps k.1)

    bindings_put_typed : (bs : List Binding) → AreTypedBindings cs kinds bs → AreTypedBindings cs kinds (map (put_binding x v) bs)
    bindings_put_typed [] k = tt
    bindings_put_typed ((y := t) ∷ bs) k = ((k.0.0, k.0.1, put_typed cs kinds x v a is has t (one k.0.0) k.0.2), bindings_put_typed bs k.1)

  abbrev IsTypedStage : Stage → Type 0
  IsTypedStage r = AreTypedEquations r.equations × AreTypedProblems r.problems × AreTypedBindings cs kinds r.bindings

  abbrev IsTypedEnding : Ending → Type 0
  IsTypedEnding unfinished = Unit {0}
  IsTypedEnding unsolvable = Unit {0}
  IsTypedEnding (solved r) = IsTypedStage r

  after_typed : (k : ℕ) → ((r : Stage) → IsTypedStage r → IsTypedEnding (run k r)) → (r : Rule) (es : List Equation) (ps : List Problem) (bs : List Binding) (whole : Stage)
      → IsTypedRule r → AreTypedEquations es → AreTypedProblems ps → AreTypedBindings cs kinds bs → IsTypedEnding (ending_after (run k) whole (apply_rule r es ps bs))
  after_typed k go (replace new qs) es ps bs whole s e p b = go _ (equations_typed-append new es s.0 e, problems_typed-append ps qs p s.1, b)
  after_typed k go (bind x v) es ps bs whole s e p b =
      go _ (equations_put_typed x v s.0 s.1 s.2 es e, problems_put_typed x v s.0 s.1 s.2 ps p, (s, bindings_put_typed x v s.0 s.1 s.2 bs b))
  after_typed k go clash es ps bs whole s e p b = tt

  step_typed : (k : ℕ) → ((r : Stage) → IsTypedStage r → IsTypedEnding (run k r)) → (es : List Equation) (ps : List Problem) (bs : List Binding)
      → AreTypedEquations es → AreTypedProblems ps → AreTypedBindings cs kinds bs → IsTypedEnding (run (suc k) (record { equations = es; problems = ps; bindings = bs }))
  step_typed k go [] ps bs e p b = (e, p, b)
  step_typed k go ((t ≐ u) ∷ es) ps bs e p b =
      after_typed k go (rule t u) es ps bs (record { equations = (t ≐ u) ∷ es; problems = ps; bindings = bs }) (rule_typed t u e.0.0 e.0.1 e.0.2) e.1 p b

  run_typed : (k : ℕ) (r : Stage) → IsTypedStage r → IsTypedEnding (run k r)
  run_typed zero r h = tt
  run_typed (suc k) r h = step_typed k (run_typed k) r.equations r.problems r.bindings h.0 h.1 h.2

  equations_of_typed : (bs : List Binding) → AreTypedBindings cs kinds bs → (ts us : List NominalTerm) (as' : List NominalType)
      → HaveTypes (HasTermType cs kinds) ts as' → HaveTypes (HasTermType cs kinds) us as' → AreTypedEquations (equations_of bs ts us)
  equations_of_typed bs h [] us as' k l = tt
  equations_of_typed bs h (t ∷ ts) [] as' k l = tt
  equations_of_typed bs h (t ∷ ts) (u ∷ us) [] k l = absurd k
  equations_of_typed bs h (t ∷ ts) (u ∷ us) (a ∷ as') k l =
      ((one a, under_typed cs kinds bs h t (one a) k.0, under_typed cs kinds bs h u (one a) l.0), equations_of_typed bs h ts us as' k.1 l.1)

  conds_problems_typed : (ds : Conds) → AreTypedConds kinds ds → AreTypedProblems (map problem_of ds)
  conds_problems_typed [] h = tt
  conds_problems_typed (d ∷ ds) h = ((h.0.0, (one h.0.1.0, (tt, h.0.1.1))), conds_problems_typed ds h.1)

  abbrev pub IsTypedUnified : Option Unified → Type 0
  IsTypedUnified None = Unit {0}
  IsTypedUnified (Some r) = AreTypedBindings cs kinds r.bindings × AreTypedConds kinds r.conditions

  with_typed : (bs : List Binding) (o : Option (List Cond)) → AreTypedBindings cs kinds bs → AreTypedSome o → IsTypedUnified (unified_under bs o)
  with_typed bs None h k = tt
  with_typed bs (Some ds) h k = (h, add_conds_typed ds [] k tt)

  finish_typed : (ds : Conds) (e : Ending) → AreTypedConds kinds ds → IsTypedEnding e → IsTypedUnified (finish ds e)
  finish_typed ds unfinished h k = tt
  finish_typed ds unsolvable h k = tt
  finish_typed ds (solved r) h k =
      with_typed r.bindings (reduce_all r.bindings (map problem_of ds ++ r.problems)) k.2
      (reduce_all_typed r.bindings k.2 (map problem_of ds ++ r.problems) (problems_typed-append (map problem_of ds) r.problems (conds_problems_typed ds h) k.1))

  -- unification keeps types
  pub unify_typed : (bs : List Binding) (ds : Conds) (ts us : List NominalTerm) (as' : List NominalType) → AreTypedBindings cs kinds bs → AreTypedConds kinds ds
      → HaveTypes (HasTermType cs kinds) ts as' → HaveTypes (HasTermType cs kinds) us as' → IsTypedUnified (unify bs ds ts us)
  unfolding unify ending
  unify_typed bs ds ts us as' b c t u =
      let first = first_stage bs ts us in
      finish_typed ds (ending first) c (run_typed (steps_for first) first (equations_of_typed bs b ts us as' t u, tt, b))
