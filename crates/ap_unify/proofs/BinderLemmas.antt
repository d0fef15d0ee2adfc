-- The step for two abstractions whose binders differ, with swappings that wait on their bodies.
use Rattle.std.proofs.Common.{◌≡◌, ℕ, true, false, List, [], ◌∷◌, ◌++◌, map, refl, reverse, sym, subst, ap, ap₂, ◌∙◌, arith}
use Rattle.std.proofs.lemmas.List.{append-nil, map-append}
use Rattle.std.proofs.lemmas.Bool.Decides.{nat_tests}
use Rattle.std.specs.Prelude.{◌==◌, if◌then◌else◌}
use Rattle.ap_defs.specs.Permutations.{act_name, inverse, name_eq, swap_of}
use Rattle.ap_defs.specs.Substitution.{Binding, Equation, Problem, under, ◌#◌, ◌≐◌}
use Rattle.ap_defs.specs.Terms.{NominalTerm, abs, act_term}
use Rattle.ap_defs.specs.Unification.{Progress, Rule, Stage, apply_rule, clash, next, reduce_all, replace, step}
use Rattle.ap_defs.specs.declared.terms.Name.{Name}
use Rattle.ap_defs.specs.declared.terms.Swap.{Swap}
use Rattle.ap_rules.proofs.MoveLemmas.{swapped_below}
use Rattle.ap_equations.specs.Plain.{plain_term}
use Rattle.ap_equations.specs.declared.plain.PlainPair.{PlainPair}
use Rattle.ap_rules.specs.Runs.{equation_under, problem_under, stage_under}
use Rattle.ap_rules.specs.Work.{equations_left, pair_equation, problems_met}
use Rattle.ap_rules.specs.declared.pairs.Work.{Work}
use Rattle.ap_theory.proofs.SubstitutionLemmas.{under_act}
use Rattle.ap_theory.specs.StatementsOnConditions.{collected}
use Rattle.ap_theory.proofs.TermLemmas.{act_term-append}
use Rattle.ap_unify.proofs.AlikeLemmas.{moved_back_alike}
use Rattle.ap_unify.proofs.ReachLemmas.{leads_about, leads_now}
use Rattle.ap_unify.specs.Moved.{binders_equation, moved_equation, waiting}
use Rattle.ap_unify.specs.Parts.{AreBelowBoth, IsEquationBelow, LeadsTo, stage_with}
use Rattle.ap_unify.specs.declared.sides.Sides.{Sides}

-- a swapping that acts after others stands in front of them
put_before : (p : List Swap) (x : Swap) (t : NominalTerm) → act_term (x ∷ []) (act_term p t) ≡ act_term (x ∷ p) t
put_before p x t = sym (act_term-append (x ∷ []) p t)

same_test : (m n : ℕ) → m ≡ n → (m == n) ≡ true
same_test m n h = grind (arith, nat_tests)

module _ (s : List Binding) (a b : Name) (t u : NominalTerm) (es : List Equation) (ps : List Problem) where
  abbrev first : Stage
  first = stage_under s ((abs a t ≐ abs b u) ∷ es) ps

  abbrev by_rule : Rule → Progress
  by_rule r = apply_rule r (map (equation_under s) es) (map (problem_under s) ps) s

  abbrev exchanging : Rule
  exchanging = replace ((under s t ≐ act_term (swap_of a b ∷ []) (under s u)) ∷ []) ((a # under s u) ∷ [])

  pub same_binders : name_eq a b ≡ true → LeadsTo first (next (stage_under s ((t ≐ u) ∷ es) ps))
  same_binders e =
      leads_now first (next (stage_under s ((t ≐ u) ∷ es) ps))
      (ap (λ v. by_rule (if v then replace ((under s t ≐ under s u) ∷ []) [] else (if a.sort == b.sort then exchanging else clash))) e
      ∙ ap (λ qs. let r : Stage = record { equations = (under s t ≐ under s u) ∷ map (equation_under s) es; problems = qs; bindings = s } in next r) (append-nil (map (problem_under s) ps)))

  module _ (differ : name_eq a b ≡ false) where
    -- the right body is one on which swappings wait
    pub exchanged_binders : (a.sort == b.sort) ≡ true → (p : List Swap) (w : NominalTerm) → u ≡ act_term p w
        → LeadsTo first (next (stage_under s ((t ≐ act_term (swap_of a b ∷ p) w) ∷ es) (ps ++ (act_name (inverse p) a # w) ∷ [])))
    exchanged_binders k p w e =
        let x = swap_of a b in
        let v = act_term (x ∷ p) w in
        let qs = map (problem_under s) ps ++ (a # under s u) ∷ [] in
        let body : under s u ≡ act_term p (under s w) = ap (under s) e ∙ under_act s p w in
        let right : act_term (x ∷ []) (under s u) ≡ under s v =
        sym (under_act s (x ∷ []) u) ∙ ap (λ z. under s (act_term (x ∷ []) z)) e ∙ ap (under s) (put_before p x w) in
        let by : step first ≡ by_rule exchanging =
        ap (λ z. by_rule (if z then replace ((under s t ≐ under s u) ∷ []) [] else (if a.sort == b.sort then exchanging else clash))) differ
        ∙ ap (λ z. by_rule (if z then exchanging else clash)) k in
        let same : collected (reduce_all [] qs) ≡ collected (reduce_all [] (map (problem_under s) (ps ++ (act_name (inverse p) a # w) ∷ []))) =
        ap collected (ap (λ z. reduce_all [] (map (problem_under s) ps ++ (a # z) ∷ [])) body
        ∙ moved_back_alike p a (under s w) (map (problem_under s) ps)
        ∙ ap (reduce_all []) (sym (map-append (problem_under s) ps ((act_name (inverse p) a # w) ∷ [])))) in
        leads_about first (by_rule exchanging) (next (stage_under s ((t ≐ v) ∷ es) (ps ++ (act_name (inverse p) a # w) ∷ []))) by
        (qs, ap (λ z. let r : Stage = record { equations = (under s t ≐ z) ∷ map (equation_under s) es; problems = qs; bindings = s } in next r) right, same)

-- what the exchange makes of the swappings and of the work that is left
module _ (m k : Sides) (a b : Name) (p : PlainPair) (left : waiting k.left ≡ waiting m.left) (right : waiting k.right ≡ swap_of a b ∷ waiting m.right) where
  bodies_after : (act_term (waiting m.left) (plain_term p.left) ≐ act_term (swap_of a b ∷ waiting m.right) (plain_term p.right)) ≡ moved_equation k p
  bodies_after = ap₂ (λ q r. act_term q (plain_term p.left) ≐ act_term r (plain_term p.right)) (sym left) (sym right)

  pub exchanged_below : (n : ℕ) → IsEquationBelow n (binders_equation m a b p) → AreBelowBoth (moved_equation k) n p
  exchanged_below n h =
      let u = act_term (waiting m.right) (plain_term p.right) in
      let x = act_term (swap_of a b ∷ waiting m.right) (plain_term p.right) in
      subst (IsEquationBelow n) bodies_after (h.0.1, swapped_below n a b u x h.0.0 h.1.0 h.1.1 (sym (put_before (waiting m.right) (swap_of a b) (plain_term p.right))))

  pub exchanged_stage : (w v : Work) → v.equations.items ≡ w.equations.items → problems_met v ≡ problems_met w ++ (act_name (inverse (waiting m.right)) a # plain_term p.right) ∷ []
      → name_eq a b ≡ false → a.sort ≡ b.sort → (s : List Binding)
      → LeadsTo (stage_under s (binders_equation m a b p ∷ equations_left w) (problems_met w)) (next (stage_with (moved_equation k) s p v))
  exchanged_stage w v es ps d e s =
      let first = stage_under s (binders_equation m a b p ∷ equations_left w) (problems_met w) in
      let t = act_term (waiting m.left) (plain_term p.left) in
      let u = act_term (waiting m.right) (plain_term p.right) in
      let h = exchanged_binders s a b t u (equations_left w) (problems_met w) d (same_test a.sort b.sort e) (waiting m.right) (plain_term p.right) refl in
      let i = ap (λ q. next (stage_under s (q ∷ equations_left w) (problems_met w ++ (act_name (inverse (waiting m.right)) a # plain_term p.right) ∷ []))) bodies_after in
      let j = ap₂ (λ fs qs. next (stage_under s (moved_equation k p ∷ map pair_equation (reverse fs)) qs)) (sym es) (sym ps) in
      subst (LeadsTo first) (i ∙ j) h
