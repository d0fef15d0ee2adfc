-- Stages that are the same but for problems, which reduce to the same conditions, come to the same.
use Rattle.std.proofs.Common.{◌≡◌, ℕ, zero, suc, List, [], ◌∷◌, ◌++◌, inl, inr, map, refl, sym, subst, ap, ap₂, ◌∙◌, ◌↔◌}
use Rattle.std.specs.Prelude.{Option, Some, None}
use Rattle.ap_defs.specs.Freshness.{Conds, add_conds, both, has_cond, reduce}
use Rattle.ap_defs.specs.Permutations.{act_name, inverse}
use Rattle.ap_defs.specs.Substitution.{Binding, Equation, Problem, put, put_equation, put_problem, under, ◌#◌, ◌:=◌, ◌≐◌}
use Rattle.ap_defs.specs.Terms.{NominalTerm, act_term}
use Rattle.ap_defs.specs.Unification.{Progress, Rule, Stage, apply_rule, bind, clash, done, ending, ending_after, failed, finish, next, problem_of, reduce_all, replace, rule, run, step, step_of, steps_for, unified_under, Unified}
use Rattle.ap_defs.specs.declared.terms.Cond.{Cond}
use Rattle.ap_defs.specs.declared.terms.Name.{Name}
use Rattle.ap_defs.specs.declared.terms.Swap.{Swap}
use Rattle.ap_defs.specs.declared.terms.Var.{Var}
use Rattle.ap_theory.proofs.BooleanLemmas.{or_nothing}
use Rattle.ap_theory.proofs.CollectionLemmas.{collected_both, collected_same}
use Rattle.ap_theory.proofs.ConditionSetLemmas.{has_cond_add_all}
use Rattle.ap_theory.proofs.EqualityLemmas.{Fresh_both}
use Rattle.ap_theory.proofs.LogicLemmas.{iff_both, iff_itself, iff_sym, iff_trans}
use Rattle.ap_theory.proofs.MostGeneralLemmas.{Meets_add_all, under_Agrees}
use Rattle.ap_theory.proofs.ReductionLemmas.{Fresh_reduce, MeetsSome_both, both_again, reduce_act, reduce_all-append, reduce_under}
use Rattle.ap_theory.proofs.SubstitutionLemmas.{applied_variables, put_substitution, under_act, under_applied}
use Rattle.ap_theory.specs.Contexts.{Context, listed_context}
use Rattle.ap_theory.specs.StatementsOnConditions.{collected, joined_conditions, reduce_again}
use Rattle.ap_theory.specs.Substitutions.{Agrees, Freshens, Meets, MeetsSome, Substitution, applied}
use Rattle.ap_rules.proofs.RunLemmas.{bound_in}
use Rattle.ap_unify.specs.Needless.{GoesTo, IsNeedless, LeavesOut}
use Rattle.ap_unify.specs.Parts.{ReducesAlike, IsReached, with_problems}

pub under_none : (t : NominalTerm) → under [] t ≡ t
under_none t = under_applied [] t ∙ applied_variables t

-- problems, reduced again under bindings
pub again : (bs : List Binding) (ps : List Problem) → reduce_all bs ps ≡ reduce_again bs (reduce_all [] ps)
again bs [] = refl
again bs ((a # t) ∷ ps) =
    ap₂ both (ap (λ u. reduce a (under bs u)) (sym (under_none t)) ∙ reduce_under bs a (under [] t)) (again bs ps)
    ∙ both_again bs (reduce a (under [] t)) (reduce_all [] ps)

put_under : (x : Var) (v t : NominalTerm) → under [] (put x v t) ≡ under ((x := v) ∷ []) (under [] t)
put_under x v t =
    under_none (put x v t) ∙ put_substitution x v t ∙ sym (under_applied ((x := v) ∷ []) t) ∙ ap (under ((x := v) ∷ [])) (sym (under_none t))

pub again_put : (x : Var) (v : NominalTerm) (ps : List Problem) → reduce_all [] (map (put_problem x v) ps) ≡ reduce_again ((x := v) ∷ []) (reduce_all [] ps)
again_put x v [] = refl
again_put x v ((a # t) ∷ ps) =
    ap₂ both (ap (reduce a) (put_under x v t) ∙ reduce_under ((x := v) ∷ []) a (under [] t)) (again_put x v ps)
    ∙ both_again ((x := v) ∷ []) (reduce a (under [] t)) (reduce_all [] ps)

-- a problem whose name is moved back in place of its term
pub moved_back_alike : (q : List Swap) (a : Name) (t : NominalTerm) (ps : List Problem)
    → reduce_all [] (ps ++ (a # act_term q t) ∷ []) ≡ reduce_all [] (ps ++ (act_name (inverse q) a # t) ∷ [])
moved_back_alike q a t ps =
    reduce_all-append [] ps ((a # act_term q t) ∷ [])
    ∙ ap (λ o. both (reduce_all [] ps) (both o (reduce_all [] []))) (ap (reduce a) (under_act [] q t) ∙ reduce_act q a (under [] t))
    ∙ sym (reduce_all-append [] ps ((act_name (inverse q) a # t) ∷ []))

pub some_same : {v w : Conds} → Some v ≡ Some w → v ≡ w
some_same e = cc

-- lists that are one set
pub same_members : (cs ds : List Cond) → add_conds cs [] ≡ add_conds ds [] → (c : Cond) → has_cond c cs ≡ has_cond c ds
same_members cs ds e c =
    sym (has_cond_add_all c cs [] ∙ or_nothing (has_cond c cs)) ∙ ap (has_cond c) e ∙ (has_cond_add_all c ds [] ∙ or_nothing (has_cond c ds))

-- what is one set of conditions reduces to one set
again_collected : (bs : List Binding) (o p : Option (List Cond)) → collected o ≡ collected p → collected (reduce_again bs o) ≡ collected (reduce_again bs p)
again_collected bs None None h = refl
again_collected bs None (Some ds) h = cc
again_collected bs (Some cs) None h = cc
again_collected bs (Some cs) (Some ds) h = collected_same bs cs ds (same_members cs ds (some_same h))

by_set : (bs : List Binding) (o p : Option (List Cond)) → collected o ≡ collected p → unified_under bs o ≡ unified_under bs p
by_set bs None None h = refl
by_set bs None (Some ds) h = cc
by_set bs (Some cs) None h = cc
by_set bs (Some cs) (Some ds) h = ap (λ (es : Conds). let r : Unified = record { bindings = bs; conditions = es } in Some r) (some_same h)

pub both_collected : (o p q : Option (List Cond)) → collected o ≡ collected p → collected (both o q) ≡ collected (both p q)
both_collected o p q h = collected_both o q ∙ ap (λ cs. joined_conditions cs (collected q)) h ∙ sym (collected_both p q)

both_collected_last : (o p q : Option (List Cond)) → collected p ≡ collected q → collected (both o p) ≡ collected (both o q)
both_collected_last o p q h = collected_both o p ∙ ap (joined_conditions (collected o)) h ∙ sym (collected_both o q)

module _ (ps qs : List Problem) (h : collected (reduce_all [] ps) ≡ collected (reduce_all [] qs)) where
  pub alike_all : (bs : List Binding) → collected (reduce_all bs ps) ≡ collected (reduce_all bs qs)
  alike_all bs = ap collected (again bs ps) ∙ again_collected bs (reduce_all [] ps) (reduce_all [] qs) h ∙ sym (ap collected (again bs qs))

  alike_put : (x : Var) (v : NominalTerm) → collected (reduce_all [] (map (put_problem x v) ps)) ≡ collected (reduce_all [] (map (put_problem x v) qs))
  alike_put x v = ap collected (again_put x v ps) ∙ again_collected ((x := v) ∷ []) (reduce_all [] ps) (reduce_all [] qs) h ∙ sym (ap collected (again_put x v qs))

  alike_more : (rs : List Problem) → collected (reduce_all [] (ps ++ rs)) ≡ collected (reduce_all [] (qs ++ rs))
  alike_more rs =
      ap collected (reduce_all-append [] ps rs) ∙ both_collected (reduce_all [] ps) (reduce_all [] qs) (reduce_all [] rs) h
      ∙ sym (ap collected (reduce_all-append [] qs rs))

  by_rule_alike : (r : Rule) (es : List Equation) (s : List Binding) → ReducesAlike (apply_rule r es ps s) (apply_rule r es qs s)
  by_rule_alike (replace new rs) es s = (ps ++ rs, refl, alike_more rs)
  by_rule_alike (bind x v) es s = (map (put_problem x v) ps, refl, alike_put x v)
  by_rule_alike clash es s = refl

  step_alike : (es : List Equation) (s : List Binding) → ReducesAlike (step_of es ps s) (step_of es qs s)
  step_alike [] s = refl
  step_alike ((t ≐ u) ∷ es) s = by_rule_alike (rule t u) es s

pub alike_itself : (p : Progress) → ReducesAlike p p
alike_itself done = refl
alike_itself failed = refl
alike_itself (next s) = (s.problems, refl, refl)

pub alike_on : (p q r : Progress) → ReducesAlike p q → ReducesAlike q r → ReducesAlike p r
alike_on p q done h k = subst (ReducesAlike p) k h
alike_on p q failed h k = subst (ReducesAlike p) k h
alike_on p q (next s) h (ps, e, k) =
    let (qs, f, m) : ReducesAlike p (next (with_problems ps s)) = subst (ReducesAlike p) e h in
    (qs, f, m ∙ k)

module _ (d : Context) (s : Substitution) where
  -- problems are solved just where what they reduce to is met
  pub Freshens_reduce : (bs : List Binding) → Agrees d s bs → (ps : List Problem) → Freshens d s ps ↔ MeetsSome d s (reduce_all bs ps)
  Freshens_reduce bs h [] = iff_itself
  Freshens_reduce bs h ((a # t) ∷ ps) =
      iff_trans
      (iff_both (iff_trans (Fresh_both d a (applied s t) (applied s (under bs t)) (under_Agrees d s bs h t)) (Fresh_reduce d s a (under bs t))) (Freshens_reduce bs h ps))
      (iff_sym (MeetsSome_both d s (reduce a (under bs t)) (reduce_all bs ps)))

  Meets_set : (cs : List Cond) → Meets d s cs ↔ Meets d s (add_conds cs [])
  Meets_set cs = ((λ h. (Meets_add_all d s cs []).1 (h, tt)), (λ h. ((Meets_add_all d s cs []).0 h).0))

  MeetsSome_collected : (o p : Option (List Cond)) → collected o ≡ collected p → MeetsSome d s o → MeetsSome d s p
  MeetsSome_collected None p h m = absurd m
  MeetsSome_collected (Some cs) None h m = cc
  MeetsSome_collected (Some cs) (Some ds) h m = (Meets_set ds).1 (subst (Meets d s) (some_same h) ((Meets_set cs).0 m))

  pub alike_Freshens : (ps qs : List Problem) → collected (reduce_all [] ps) ≡ collected (reduce_all [] qs) → Freshens d s ps → Freshens d s qs
  alike_Freshens ps qs h f =
      (Freshens_reduce [] tt qs).1 (MeetsSome_collected (reduce_all [] ps) (reduce_all [] qs) h ((Freshens_reduce [] tt ps).0 f))

-- An equation that is needless is so where problems reduce to the same.
needless_alike : (t u : NominalTerm) (ps qs : List Problem) (bs : List Binding) → collected (reduce_all [] ps) ≡ collected (reduce_all [] qs) → IsNeedless t u qs bs → IsNeedless t u ps bs
needless_alike t u ps qs bs h k = (
  (λ ds s a f. k.0 ds s a (alike_Freshens (listed_context ds) s ps qs h f)),
  k.1,
  k.2,
  k.3,
  alike_all ps qs h bs ∙ k.4 ∙ sym h,
)

leaves_out_alike : (es : List Equation) (ps qs : List Problem) (bs : List Binding) (p : Progress) → collected (reduce_all [] ps) ≡ collected (reduce_all [] qs) → LeavesOut es qs bs p
    → (q : Progress) × LeavesOut es ps bs q × ReducesAlike q p
leaves_out_alike [] ps qs bs p h k = absurd k
leaves_out_alike ((t ≐ u) ∷ es) ps qs bs p h k =
    let q : Progress = next (record { equations = es; problems = ps; bindings = bs }) in
    (q, (refl, needless_alike t u ps qs bs h k.1), subst (ReducesAlike q) (sym k.0) (ps, refl, h))

goes_alike : (s : Stage) (ps : List Problem) (p : Progress) → collected (reduce_all [] ps) ≡ collected (reduce_all [] s.problems) → GoesTo s p
    → (q : Progress) × GoesTo (with_problems ps s) q × ReducesAlike q p
goes_alike s ps p h (inl e) =
    let q = step (with_problems ps s) in
    (q, inl refl, subst (ReducesAlike q) e (step_alike ps s.problems h s.equations s.bindings))
goes_alike s ps p h (inr k) = let l = leaves_out_alike s.equations ps s.problems s.bindings p h k in (l.0, inr l.1, l.2)

-- steps from a stage whose problems reduce to the same
pub reached_alike : (n : ℕ) (s : Stage) (ps : List Problem) (p : Progress) → collected (reduce_all [] ps) ≡ collected (reduce_all [] s.problems) → IsReached n s p
    → (q : Progress) × IsReached n (with_problems ps s) q × ReducesAlike q p
reached_alike zero s ps p h e = goes_alike s ps p h e
reached_alike (suc n) s ps p h (r, e, k) =
    let (q, g, m) = goes_alike s ps (next r) h e in
    let (qs, f, l) : ReducesAlike q (next r) = m in
    let (o, i, j) = reached_alike n r qs p l k in
    (o, (with_problems qs r, subst (GoesTo (with_problems ps s)) f g, i), j)

-- the end of a run
module _ (ds : Conds) where
  abbrev EndAlike : ℕ → Type 0
  EndAlike k = (s : Stage) (ps : List Problem) → collected (reduce_all [] ps) ≡ collected (reduce_all [] s.problems) → finish ds (run k (with_problems ps s)) ≡ finish ds (run k s)

  after_rule : (k : ℕ) → EndAlike k → (r : Rule) (es : List Equation) (ps qs : List Problem) (s : List Binding) (a b : Stage) → collected (reduce_all [] ps) ≡ collected (reduce_all [] qs)
      → finish ds (ending_after (run k) a (apply_rule r es ps s)) ≡ finish ds (ending_after (run k) b (apply_rule r es qs s))
  after_rule k go (replace new rs) es ps qs s a b h = go (record { equations = new ++ es; problems = qs ++ rs; bindings = s }) (ps ++ rs) (alike_more ps qs h rs)
  after_rule k go (bind x v) es ps qs s a b h =
      go (record { equations = map (put_equation x v) es; problems = map (put_problem x v) qs; bindings = bound_in x v s }) (map (put_problem x v) ps) (alike_put ps qs h x v)
  after_rule k go clash es ps qs s a b h = refl

  last_alike : (ps qs : List Problem) (s : List Binding) → collected (reduce_all [] ps) ≡ collected (reduce_all [] qs)
      → unified_under s (reduce_all s (map problem_of ds ++ ps)) ≡ unified_under s (reduce_all s (map problem_of ds ++ qs))
  last_alike ps qs s h =
      let os = reduce_all s (map problem_of ds) in
      by_set s (reduce_all s (map problem_of ds ++ ps)) (reduce_all s (map problem_of ds ++ qs))
      (ap collected (reduce_all-append s (map problem_of ds) ps) ∙ both_collected_last os (reduce_all s ps) (reduce_all s qs) (alike_all ps qs h s)
      ∙ sym (ap collected (reduce_all-append s (map problem_of ds) qs)))

  after_step : (k : ℕ) → EndAlike k → (es : List Equation) (ps qs : List Problem) (s : List Binding) → collected (reduce_all [] ps) ≡ collected (reduce_all [] qs)
      → finish ds (run (suc k) (record { equations = es; problems = ps; bindings = s })) ≡ finish ds (run (suc k) (record { equations = es; problems = qs; bindings = s }))
  after_step k go [] ps qs s h = last_alike ps qs s h
  after_step k go ((t ≐ u) ∷ es) ps qs s h =
      after_rule k go (rule t u) es ps qs s (record { equations = (t ≐ u) ∷ es; problems = ps; bindings = s }) (record { equations = (t ≐ u) ∷ es; problems = qs; bindings = s }) h

  run_alike : (k : ℕ) → EndAlike k
  run_alike zero s ps h = refl
  run_alike (suc k) s ps h = after_step k (run_alike k) s.equations ps s.problems s.bindings h

  pub ending_alike : (s : Stage) (ps : List Problem) → collected (reduce_all [] ps) ≡ collected (reduce_all [] s.problems) → finish ds (ending (with_problems ps s)) ≡ finish ds (ending s)
  unfolding ending
  ending_alike s ps h = run_alike (steps_for s) s ps h
