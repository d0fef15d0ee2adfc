-- What is needless may be left out: the end gives the same.
use Rattle.std.proofs.Common.{◌≡◌, ◌==◌, ◌||◌, Bool, ℕ, zero, suc, true, false, List, [], ◌∷◌, ◌++◌, inl, inr, map, refl, sym, subst, ap, ◌∙◌, arith}
use Rattle.std.proofs.lemmas.Bool.Decides.{nat_tests}
use Rattle.std.specs.Prelude.{if◌then◌else◌, nat_lt, Option, Some, None}
use Rattle.ap_defs.specs.Freshness.{Conds, add_conds, both, cond_eq, has_cond, var_eq}
use Rattle.ap_defs.specs.Permutations.{disagreement, inverse, name_eq, swap_of}
use Rattle.ap_defs.specs.Substitution.{Binding, Equation, Problem, put_equation, put_problem, ◌#◌, ◌:=◌, ◌≐◌}
use Rattle.ap_defs.specs.Terms.{NominalTerm, abs, act_term, app, name, pair, susp, unit}
use Rattle.ap_defs.specs.Unification.{Rule, Stage, Unified, apply_rule, bind, clash, ending, ending_after, finish, fresh_for, problem_of, reduce_all, replace, rule, run, steps_for, unified_under}
use Rattle.ap_defs.specs.declared.terms.Cond.{Cond}
use Rattle.ap_defs.specs.declared.terms.Swap.{Swap}
use Rattle.ap_defs.specs.declared.terms.Var.{Var}
use Rattle.ap_theory.specs.Contexts.{Context, Equal, Fresh, listed_context}
use Rattle.ap_theory.specs.StatementsOnConditions.{collected, reduce_again}
use Rattle.ap_theory.specs.Substitutions.{Freshens, IsInstance, Meets, MeetsSome, applied, substitution_of, variables}
use Rattle.ap_theory.specs.Variables.{EachCond, IsIdempotent, IsUnbound}
use Rattle.ap_theory.proofs.BooleanLemmas.{or_cases}
use Rattle.ap_theory.proofs.ConditionSetLemmas.{add_conds_same, cond_eq_tells, has_cond-append}
use Rattle.ap_theory.proofs.IdempotenceLemmas.{EachSome, each_reduce_all, under_each}
use Rattle.ap_theory.proofs.OpenSoundnessLemmas.{result_itself}
use Rattle.ap_theory.proofs.PermutationLemmas.{name_eq_itself, not_name}
use Rattle.ap_theory.proofs.ReductionLemmas.{reduce_all-append}
use Rattle.ap_theory.proofs.SolvingLemmas.{RuleHolds, rule_Holds}
use Rattle.ap_theory.proofs.SubstitutionLemmas.{applied_variables, under_applied}
use Rattle.ap_theory.proofs.TermLemmas.{same_var}
use Rattle.ap_theory.proofs.TerminationLemmas.{ending_next}
use Rattle.ap_theory.proofs.VariableLemmas.{EachProblem}
use Rattle.ap_rules.proofs.RunLemmas.{bound_in, reduce_all_under}
use Rattle.ap_rules.specs.Runs.{problem_under}
use Rattle.ap_unify.proofs.AlikeLemmas.{Freshens_reduce, again, again_put, ending_alike, same_members, some_same}
use Rattle.ap_unify.specs.Needless.{IsNeedless}

same_number : (m n : ℕ) → m ≡ n → (m == n) ≡ true
same_number m n h = grind (arith, nat_tests)

or_absorb : (x y : Bool) → (y ≡ true → x ≡ true) → (x || y) ≡ x
or_absorb true y h = refl
or_absorb false true h = sym (h refl)
or_absorb false false h = refl

abbrev of : List Binding → List Equation → List Problem → Stage
of bs es ps = record { equations = es; problems = ps; bindings = bs }

-- What is met by conditions adds none to these.
module _ (cs : List Cond) where
  abbrev kept : Context
  kept = listed_context cs

  members_met : (fs : List Cond) → Meets kept variables fs → (c : Cond) → has_cond c fs ≡ true → has_cond c cs ≡ true
  members_met [] h c m = cc
  members_met (f ∷ fs) h c m =
      elim (or_cases (cond_eq c f) (has_cond c fs) m) [
        | inl e ↦ subst (λ (b : Cond). has_cond b cs ≡ true) (sym (cond_eq_tells c f e)) h.0
        | inr k ↦ members_met fs h.1 c k
      ]

  met_adds_none : (o p : Option (List Cond)) → collected o ≡ Some (add_conds cs []) → MeetsSome kept variables p → collected (both o p) ≡ Some (add_conds cs [])
  met_adds_none None p e h = cc
  met_adds_none (Some es) None e h = absurd h
  met_adds_none (Some es) (Some fs) e h =
      ap Some (add_conds_same (es ++ fs) cs (λ c.
      has_cond-append c es fs ∙ ap (λ b. b || has_cond c fs) (same_members es cs (some_same e) c) ∙ or_absorb (has_cond c cs) (has_cond c fs) (members_met fs h c)))

  with_more : (ps qs : List Problem) → collected (reduce_all [] ps) ≡ Some (add_conds cs []) → Freshens kept variables qs → collected (reduce_all [] (ps ++ qs)) ≡ Some (add_conds cs [])
  with_more ps qs e h =
      ap collected (reduce_all-append [] ps qs) ∙ met_adds_none (reduce_all [] ps) (reduce_all [] qs) e ((Freshens_reduce kept variables [] tt qs).0 h)

  module _ (bs : List Binding) where
    -- the end is that of the equations behind, with problems that add no conditions
    abbrev EndsBehind : NominalTerm → NominalTerm → List Equation → List Problem → Type 0
    EndsBehind t u es ps = (rs : List Problem) × (ending (of bs ((t ≐ u) ∷ es) ps) ≡ ending (of bs es rs)) × (collected (reduce_all [] rs) ≡ Some (add_conds cs []))

    by_replace : (t u : NominalTerm) (es : List Equation) (ps : List Problem) (new : List Equation) (qs : List Problem) → rule t u ≡ replace new qs
        → ending (of bs ((t ≐ u) ∷ es) ps) ≡ ending (of bs (new ++ es) (ps ++ qs))
    by_replace t u es ps new qs e = ending_next (of bs ((t ≐ u) ∷ es) ps) (of bs (new ++ es) (ps ++ qs)) (ap (λ r. apply_rule r es ps bs) e)

    abbrev one_variable : List Swap → List Swap → Var → Bool → Rule
    one_variable p q x b =
        if b then replace [] (map (fresh_for x) (disagreement p q)) else (if nat_lt x.num x.num then bind x (susp (inverse q ++ p) x) else bind x (susp (inverse p ++ q) x))

    behind_susps : (p q : List Swap) (x : Var) (es : List Equation) (ps : List Problem) → collected (reduce_all [] ps) ≡ Some (add_conds cs []) → Equal kept (susp p x) (susp q x)
        → EndsBehind (susp p x) (susp q x) es ps
    behind_susps p q x es ps e h =
        let qs = map (fresh_for x) (disagreement p q) in
        let same : var_eq x x ≡ true = same_var x x refl in
        let k : Equal kept (applied variables (susp p x)) (applied variables (susp q x)) =
        subst (λ (z : NominalTerm). Equal kept z (applied variables (susp q x))) (sym (applied_variables (susp p x))) (subst (λ (z : NominalTerm). Equal kept (susp p x) z) (sym (applied_variables (susp q x))) h) in
        let held : RuleHolds kept variables (one_variable p q x (var_eq x x)) = (rule_Holds kept variables (susp p x) (susp q x)).0 k in
        let left : RuleHolds kept variables (replace [] qs) = subst (λ b. RuleHolds kept variables (one_variable p q x b)) same held in
        (ps ++ qs, by_replace (susp p x) (susp q x) es ps [] qs (ap (one_variable p q x) same), with_more ps qs e left.1)

    -- terms that are equal under the conditions
    equal_behind : (t u : NominalTerm) → Equal kept t u → (es : List Equation) (ps : List Problem) → collected (reduce_all [] ps) ≡ Some (add_conds cs []) → EndsBehind t u es ps
    equal_behind unit unit h es ps e = (ps ++ [], by_replace unit unit es ps [] [] refl, with_more ps [] e tt)
    equal_behind (name a) (name b) h es ps e =
        let same : name_eq a b ≡ true = ap (name_eq a) (sym h) ∙ name_eq_itself a in
        (ps ++ [], by_replace (name a) (name b) es ps [] [] (ap (λ v. if v then replace [] [] else clash) same), with_more ps [] e tt)
    equal_behind (pair t u) (pair v w) h es ps e =
        let a = equal_behind t v h.0 ((u ≐ w) ∷ es) (ps ++ []) (with_more ps [] e tt) in
        let b = equal_behind u w h.1 es a.0 a.2 in
        (b.0, by_replace (pair t u) (pair v w) es ps ((t ≐ v) ∷ (u ≐ w) ∷ []) [] refl ∙ a.1 ∙ b.1, b.2)
    equal_behind (app f t) (app g u) h es ps e =
        let same : (f == g) ≡ true = same_number f g h.0 in
        let a = equal_behind t u h.1 es (ps ++ []) (with_more ps [] e tt) in
        (a.0, by_replace (app f t) (app g u) es ps ((t ≐ u) ∷ []) [] (ap (λ v. if v then replace ((t ≐ u) ∷ []) [] else clash) same) ∙ a.1, a.2)
    equal_behind (abs a t) (abs b u) (inl h) es ps e =
        let same : name_eq a b ≡ true = ap (name_eq a) (sym h.0) ∙ name_eq_itself a in
        let other = if a.sort == b.sort then replace ((t ≐ act_term (swap_of a b ∷ []) u) ∷ []) ((a # u) ∷ []) else clash in
        let k = equal_behind t u h.1 es (ps ++ []) (with_more ps [] e tt) in
        (k.0, by_replace (abs a t) (abs b u) es ps ((t ≐ u) ∷ []) [] (ap (λ v. if v then replace ((t ≐ u) ∷ []) [] else other) same) ∙ k.1, k.2)
    equal_behind (abs a t) (abs b u) (inr h) es ps e =
        let new = (t ≐ act_term (swap_of a b ∷ []) u) ∷ [] in
        let qs = (a # u) ∷ [] in
        let differ : name_eq a b ≡ false = not_name a b h.0 in
        let sorts : (a.sort == b.sort) ≡ true = same_number a.sort b.sort h.1 in
        let more : Freshens kept variables qs = (subst (Fresh kept a) (sym (applied_variables u)) h.3, tt) in
        let k = equal_behind t (act_term (swap_of a b ∷ []) u) h.2 es (ps ++ qs) (with_more ps qs e more) in (
          k.0,
          by_replace (abs a t) (abs b u) es ps new qs
              (ap (λ v. if v then replace ((t ≐ u) ∷ []) [] else (if a.sort == b.sort then replace new qs else clash)) differ ∙ ap (λ v. if v then replace new qs else clash) sorts)
              ∙ k.1,
          k.2,
        )
    equal_behind (susp p x) (susp q y) h es ps e =
        subst (λ (z : Var). EndsBehind (susp p x) (susp q z) es ps) h.0 (behind_susps p q x es ps e (refl, h.1))
    equal_behind _ _ h es ps e = absurd h

-- A run whose problems are refuted has no result.
module _ (ds : Conds) where
  none_last : (o : Option (List Cond)) → both o None ≡ None
  none_last None = refl
  none_last (Some cs) = refl

  abbrev Loses : ℕ → Type 0
  Loses k = (es : List Equation) (ps : List Problem) (bs : List Binding) → reduce_all [] ps ≡ None → finish ds (run k (of bs es ps)) ≡ None

  lost_rule : (k : ℕ) → Loses k → (r : Rule) (es : List Equation) (ps : List Problem) (bs : List Binding) (whole : Stage) → reduce_all [] ps ≡ None
      → finish ds (ending_after (run k) whole (apply_rule r es ps bs)) ≡ None
  lost_rule k go (replace new qs) es ps bs whole h = go (new ++ es) (ps ++ qs) bs (reduce_all-append [] ps qs ∙ ap (λ o. both o (reduce_all [] qs)) h)
  lost_rule k go (bind x v) es ps bs whole h =
      go (map (put_equation x v) es) (map (put_problem x v) ps) (bound_in x v bs) (again_put x v ps ∙ ap (reduce_again ((x := v) ∷ [])) h)
  lost_rule k go clash es ps bs whole h = refl

  lost_run : (k : ℕ) → Loses k
  lost_run zero es ps bs h = refl
  lost_run (suc k) [] ps bs h =
      ap (unified_under bs) (reduce_all-append bs (map problem_of ds) ps
      ∙ ap (both (reduce_all bs (map problem_of ds))) (again bs ps ∙ ap (reduce_again bs) h) ∙ none_last (reduce_all bs (map problem_of ds)))
  lost_run (suc k) ((t ≐ u) ∷ es) ps bs h = lost_rule k (lost_run k) (rule t u) es ps bs (of bs ((t ≐ u) ∷ es) ps) h

  lost_ending : (es : List Equation) (ps : List Problem) (bs : List Binding) → reduce_all [] ps ≡ None → finish ds (ending (of bs es ps)) ≡ None
  unfolding ending
  lost_ending es ps bs h = lost_run (steps_for (of bs es ps)) es ps bs h

none_collected : (o : Option (List Cond)) → collected o ≡ None → o ≡ None
none_collected None h = refl
none_collected (Some cs) h = cc

-- The conditions to which problems reduce under bindings are on unbound variables.
module _ (bs : List Binding) (idempotent : IsIdempotent bs) where
  each_under : (ps : List Problem) → EachProblem (IsUnbound bs) (map (problem_under bs) ps)
  each_under [] = tt
  each_under ((a # t) ∷ ps) = (under_each bs idempotent t, each_under ps)

  reduced_unbound : (ps : List Problem) (cs : List Cond) → reduce_all bs ps ≡ Some cs → EachCond (IsUnbound bs) cs
  reduced_unbound ps cs e =
      subst (EachSome (IsUnbound bs)) (reduce_all_under bs idempotent ps ∙ e)
      (each_reduce_all (IsUnbound bs) bs (map (problem_under bs) ps) (λ t k. under_each bs idempotent t) (each_under ps))

module _ (ds : Conds) (t u : NominalTerm) (es : List Equation) (ps : List Problem) (bs : List Binding) (h : IsNeedless t u ps bs) where
  by_reduced : (o : Option (List Cond)) → reduce_all bs ps ≡ o → finish ds (ending (of bs ((t ≐ u) ∷ es) ps)) ≡ finish ds (ending (of bs es ps))
  by_reduced None e =
      let l : reduce_all [] ps ≡ None = none_collected (reduce_all [] ps) (sym h.4 ∙ ap collected e) in
      lost_ending ds ((t ≐ u) ∷ es) ps bs l ∙ sym (lost_ending ds es ps bs l)
  by_reduced (Some cs) e =
      let d = listed_context cs in
      let s = substitution_of bs in
      let r : Unified = record { bindings = bs; conditions = cs } in
      let i : IsInstance d s (Some r) = result_itself r h.1 (reduced_unbound bs h.1 ps cs e) in
      let f : Freshens d s ps = (Freshens_reduce d s bs i.0 ps).1 (subst (MeetsSome d s) (sym e) i.1) in
      let k : Equal d (applied s t) (applied s u) = h.0 cs s i.0 f in
      let l : Equal d t u =
      subst (λ (z : NominalTerm). Equal d z u) (sym (under_applied bs t) ∙ h.2) (subst (λ (z : NominalTerm). Equal d (applied s t) z) (sym (under_applied bs u) ∙ h.3) k) in
      let now : collected (reduce_all [] ps) ≡ Some (add_conds cs []) = sym h.4 ∙ ap collected e in
      let m = equal_behind cs bs t u l es ps now in
      ap (finish ds) m.1 ∙ ending_alike ds (of bs es ps) m.0 (m.2 ∙ sym now)

  pub left_out_ending : finish ds (ending (of bs ((t ≐ u) ∷ es) ps)) ≡ finish ds (ending (of bs es ps))
  left_out_ending = by_reduced (reduce_all bs ps) refl
