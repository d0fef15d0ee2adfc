-- Stages that are reached by one or several steps.
use Rattle.std.proofs.Common.{◌≡◌, ◌<◌, ℕ, zero, suc, List, [], ◌∷◌, inl, inr, map, subst, sym, ap, ◌∙◌, arith}
use Rattle.std.specs.Prelude.{None}
use Rattle.ap_defs.specs.Freshness.{Conds}
use Rattle.ap_defs.specs.Substitution.{Binding, Equation, Problem, under, ◌≐◌}
use Rattle.ap_defs.specs.Terms.{NominalTerm}
use Rattle.ap_defs.specs.Unification.{Progress, Stage, apply_rule, ending, failed, finish, next, rule, step}
use Rattle.ap_theory.proofs.IdempotenceLemmas.{under_under}
use Rattle.ap_theory.proofs.SolvingLemmas.{RuleHolds, rule_Holds}
use Rattle.ap_theory.proofs.TerminationLemmas.{ending_failed, ending_next}
use Rattle.ap_theory.specs.Contexts.{listed_context}
use Rattle.ap_unify.proofs.AlikeLemmas.{alike_itself, alike_on, ending_alike, reached_alike}
use Rattle.ap_unify.proofs.FewerLemmas.{step_fewer, steps_alike, steps_to_end, without_fewer}
use Rattle.ap_unify.proofs.NeedlessLemmas.{left_out_ending}
use Rattle.ap_rules.specs.Runs.{equation_under, problem_under, stage_under}
use Rattle.ap_unify.specs.Needless.{GoesTo, LeavesOut}
use Rattle.ap_unify.specs.Parts.{ReducesAlike, IsReached, LeadsTo, Reaches, rule_under, with_problems}

pub leads_now : (s : Stage) (p : Progress) → step s ≡ p → LeadsTo s p
leads_now s p e = (0, p, inl e, alike_itself p)

-- by one step, where problems may be kept as others
pub leads_about : (s : Stage) (q p : Progress) → step s ≡ q → ReducesAlike q p → LeadsTo s p
leads_about s q p e a = (0, q, inl e, a)

next_same : {r s : Stage} → next r ≡ next s → r ≡ s
next_same e = cc

none_failed : (r : Stage) → failed ≡ next r → ⊥
none_failed r e = cc

-- An equation that is left out.
left_out_less : (es : List Equation) (ps : List Problem) (bs : List Binding) (r : Stage) → LeavesOut es ps bs (next r) → steps_to_end r < steps_to_end (record { equations = es; problems = ps; bindings = bs })
left_out_less [] ps bs r h = absurd h
left_out_less ((t ≐ u) ∷ es) ps bs r h =
    subst (λ (q : Stage). steps_to_end q < steps_to_end (record { equations = (t ≐ u) ∷ es; problems = ps; bindings = bs })) (sym (next_same h.0)) (without_fewer t u es ps bs)

left_out_ends : (ds : Conds) (es : List Equation) (ps : List Problem) (bs : List Binding) (r : Stage) → LeavesOut es ps bs (next r)
    → finish ds (ending (record { equations = es; problems = ps; bindings = bs })) ≡ finish ds (ending r)
left_out_ends ds [] ps bs r h = absurd h
left_out_ends ds ((t ≐ u) ∷ es) ps bs r h = left_out_ending ds t u es ps bs h.1 ∙ ap (λ q. finish ds (ending q)) (sym (next_same h.0))

not_left_out : (es : List Equation) (ps : List Problem) (bs : List Binding) → LeavesOut es ps bs failed → ⊥
not_left_out [] ps bs h = h
not_left_out ((t ≐ u) ∷ es) ps bs h = none_failed (record { equations = es; problems = ps; bindings = bs }) h.0

-- One step, or an equation that is left out.
goes_less : (s r : Stage) → GoesTo s (next r) → steps_to_end r < steps_to_end s
goes_less s r (inl e) = step_fewer s r e
goes_less s r (inr h) = left_out_less s.equations s.problems s.bindings r h

goes_ending : (ds : Conds) (s r : Stage) → GoesTo s (next r) → finish ds (ending s) ≡ finish ds (ending r)
goes_ending ds s r (inl e) = ap (finish ds) (ending_next s r e)
goes_ending ds s r (inr h) = left_out_ends ds s.equations s.problems s.bindings r h

goes_failed : (ds : Conds) (s : Stage) → GoesTo s failed → finish ds (ending s) ≡ None
goes_failed ds s (inl e) = ap (finish ds) (ending_failed s e)
goes_failed ds s (inr h) = absurd (not_left_out s.equations s.problems s.bindings h)

reached_less : (n : ℕ) (s r : Stage) → IsReached n s (next r) → steps_to_end r < steps_to_end s
reached_less zero s r e = goes_less s r e
reached_less (suc n) s r (m, e, h) =
    let k : steps_to_end m < steps_to_end s = goes_less s m e in
    let l : steps_to_end r < steps_to_end m = reached_less n m r h in
    omega arith

reached_ending : (ds : Conds) (n : ℕ) (s r : Stage) → IsReached n s (next r) → finish ds (ending s) ≡ finish ds (ending r)
reached_ending ds zero s r e = goes_ending ds s r e
reached_ending ds (suc n) s r (m, e, h) = goes_ending ds s m e ∙ reached_ending ds n m r h

reached_failed : (ds : Conds) (n : ℕ) (s : Stage) → IsReached n s failed → finish ds (ending s) ≡ None
reached_failed ds zero s e = goes_failed ds s e
reached_failed ds (suc n) s (m, e, h) = goes_ending ds s m e ∙ reached_failed ds n m h

-- fewer steps are left, until the end gives the same
pub leads_less : (s r : Stage) → LeadsTo s (next r) → steps_to_end r < steps_to_end s
leads_less s r (n, q, h, (ps, e, a)) =
    subst (λ m. m < steps_to_end s) (steps_alike r ps) (reached_less n s (with_problems ps r) (subst (IsReached n s) e h))

pub leads_ending : (ds : Conds) (s r : Stage) → LeadsTo s (next r) → finish ds (ending s) ≡ finish ds (ending r)
leads_ending ds s r (n, q, h, (ps, e, a)) =
    reached_ending ds n s (with_problems ps r) (subst (IsReached n s) e h) ∙ ending_alike ds r ps a

pub leads_failed : (ds : Conds) (s : Stage) → LeadsTo s failed → finish ds (ending s) ≡ None
leads_failed ds s (n, q, h, e) = reached_failed ds n s (subst (IsReached n s) e h)

-- one way on after another
then_reached : (n m : ℕ) (s r : Stage) (q p : Progress) → IsReached n s (next r) → IsReached m r q → ReducesAlike q p → LeadsTo s p
then_reached zero m s r q p e k a = (suc m, q, (r, e, k), a)
then_reached (suc n) m s r q p (o, e, h) k a =
    let (j, x, i, b) = then_reached n m o r q p h k a in
    (suc j, x, (o, e, i), b)

pub then_reaches : (s r : Stage) (p : Progress) → LeadsTo s (next r) → Reaches r p → LeadsTo s p
then_reaches s r p h (inl e) = subst (LeadsTo s) e h
then_reaches s r p (n, q, h, (ps, e, a)) (inr (m, x, k, b)) =
    let (y, i, c) = reached_alike m r ps x a k in
    then_reached n m s (with_problems ps r) y p (subst (IsReached n s) e h) i (alike_on y x p c b)

-- Equations of one rule lead to the same.
module _ (s : List Binding) (t u v w : NominalTerm) (es : List Equation) (ps : List Problem) (e : rule (under s t) (under s u) ≡ rule (under s v) (under s w)) where
  goes_by_one_rule : (p : Progress) → GoesTo (stage_under s ((t ≐ u) ∷ es) ps) p → GoesTo (stage_under s ((v ≐ w) ∷ es) ps) p
  goes_by_one_rule p (inl h) = inl (ap (λ r. apply_rule r (map (equation_under s) es) (map (problem_under s) ps) s) (sym e) ∙ h)
  goes_by_one_rule p (inr h) =
      inr (
        h.0,
        (
          (λ ds r a f. (rule_Holds (listed_context ds) r (under s v) (under s w)).1 (subst (RuleHolds (listed_context ds) r) e ((rule_Holds (listed_context ds) r (under s t) (under s u)).0 (h.1.0 ds r a f)))),
          h.1.1,
          under_under s h.1.1 v,
          under_under s h.1.1 w,
          h.1.4,
        ),
      )

  leads_by_one_rule : (p : Progress) → LeadsTo (stage_under s ((t ≐ u) ∷ es) ps) p → LeadsTo (stage_under s ((v ≐ w) ∷ es) ps) p
  leads_by_one_rule p (zero, q, h, a) = (0, q, goes_by_one_rule q h, a)
  leads_by_one_rule p (suc n, q, (o, f, h), a) = (suc n, q, (o, goes_by_one_rule (next o) f, h), a)

pub leads_alike : (s : List Binding) (q r : Equation) (es : List Equation) (ps : List Problem) (p : Progress) → rule_under s q ≡ rule_under s r
    → LeadsTo (stage_under s (q ∷ es) ps) p → LeadsTo (stage_under s (r ∷ es) ps) p
leads_alike s (t ≐ u) (v ≐ w) es ps p e h = leads_by_one_rule s t u v w es ps e p h

-- an equation in front that is the same under the bindings
pub leads_under : (s : List Binding) (q r : Equation) (es : List Equation) (ps : List Problem) (p : Progress) → equation_under s q ≡ equation_under s r
    → LeadsTo (stage_under s (q ∷ es) ps) p → LeadsTo (stage_under s (r ∷ es) ps) p
leads_under s q r es ps p e h =
    subst (λ (f : Equation). let t : Stage = record { equations = f ∷ map (equation_under s) es; problems = map (problem_under s) ps; bindings = s } in LeadsTo t p) e h
