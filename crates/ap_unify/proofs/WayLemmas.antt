-- How the step for an equation of two parts goes on, where another one may wait behind it.
use Rattle.std.proofs.Common.{◌≡◌, ◌++◌, ◌∷◌, List, map, refl, reverse, subst, sym, ap, ap₂, ◌∙◌}
use Rattle.std.specs.Prelude.{Option, Some, None}
use Rattle.ap_defs.specs.Substitution.{Binding, Equation, Problem, under, ◌≐◌}
use Rattle.ap_defs.specs.Terms.{NominalTerm}
use Rattle.ap_defs.specs.Unification.{Progress, Stage, apply_rule, failed, next, step}
use Rattle.ap_store.specs.Marks.{HasNoVars}
use Rattle.ap_equations.specs.Plain.{plain_term}
use Rattle.ap_unify.proofs.ReachLemmas.{leads_alike, leads_now}
use Rattle.ap_unify.specs.Parts.{AreMarksTrue, AreWaitingMarksTrue, IsRuleFor, LeadsTo, PairReading, rule_of, rule_under, stage_of, stage_with, waiting_equations}
use Rattle.ap_rules.specs.Runs.{equation_under, problem_under, stage_under}
use Rattle.ap_rules.specs.Work.{equations_left, pair_equation, problem_for, problems_met}
use Rattle.ap_rules.specs.declared.pairs.Work.{Work}
use Rattle.ap_unify.specs.declared.parts.Ahead.{Ahead}
use Rattle.ap_unify.specs.declared.parts.Turn.{Turn}
use Rattle.ap_unify.specs.declared.parts.Turn.TheVariants as turns
use Rattle.ap_equations.specs.declared.plain.PlainPair.{PlainPair}

-- marks stay true where no variable comes
module _ (s r : List Binding) (f : (t : NominalTerm) → HasNoVars (under s t) → HasNoVars (under r t)) where
  marks_stay : (p : PlainPair) → AreMarksTrue s p → AreMarksTrue r p
  marks_stay p h = (λ g. f (plain_term p.left) (h.0 g), λ g. f (plain_term p.right) (h.1 g))

  pub waiting_stay : (o : Option PlainPair) → AreWaitingMarksTrue s o → AreWaitingMarksTrue r o
  waiting_stay None h = tt
  waiting_stay (Some p) h = marks_stay p h

-- the rule for an equation in front
rule_first : (s : List Binding) (e : Equation) (es : List Equation) (ps : List Problem)
    → apply_rule (rule_under s e) (map (equation_under s) es) (map (problem_under s) ps) s ≡ step (stage_under s (e ∷ es) ps)
rule_first s (t ≐ u) es ps = refl

module _ (q : PairReading) (s r : List Binding) (pair : PlainPair) (o : Option PlainPair) (w v : Work) (e : v.equations.items ≡ w.equations.items) (f : v.problems.items ≡ w.problems.items) where
  abbrev before : Stage
  before = stage_of q s pair o w

  same_behind : apply_rule (rule_of q s pair) (map (equation_under s) (waiting_equations q o ++ equations_left v)) (map (problem_under s) (problems_met v)) s ≡ step before
  same_behind =
      rule_first s (q pair) (waiting_equations q o ++ equations_left v) (problems_met v)
      ∙ ap₂ (λ es ps. step (stage_under s (q pair ∷ (waiting_equations q o ++ map pair_equation (reverse es))) (map problem_for ps))) e f

  module _ (ahead : Ahead) (turn : Turn) (h : IsRuleFor q turn ahead s r (rule_of q s pair)) where
    turned : (t : Turn) → turn ≡ t → IsRuleFor q t ahead s r (rule_of q s pair)
    turned t k = subst (λ x. IsRuleFor q x ahead s r (rule_of q s pair)) k h

    leads_by : (p : Progress) → p ≡ step before → LeadsTo before p
    leads_by p k = leads_now before p (sym k)

    pub clash_way : turn ≡ turns.Clash → LeadsTo before failed
    clash_way k = leads_by failed (turned turns.Clash k (waiting_equations q o ++ equations_left v) (problems_met v) ∙ same_behind)

    pub done_way : turn ≡ turns.Done → LeadsTo before (next (stage_under r (waiting_equations q o ++ equations_left v) (problems_met v)))
    done_way k =
        leads_by (next (stage_under r (waiting_equations q o ++ equations_left v) (problems_met v)))
        (turned turns.Done k (waiting_equations q o ++ equations_left v) (problems_met v) ∙ same_behind)

    pub on_way : turn ≡ turns.On → LeadsTo before (next (stage_of q r ahead.next o v))
    on_way k = leads_by (next (stage_of q r ahead.next o v)) (turned turns.On k (waiting_equations q o ++ equations_left v) (problems_met v) ∙ same_behind)

    -- once the one that waits is put to the others
    module _ (u : Work) (g : equations_left u ≡ waiting_equations q o ++ equations_left v) (i : u.problems.items ≡ v.problems.items) where
      pub both_way : turn ≡ turns.Both → LeadsTo before (next (stage_of q r ahead.next (Some ahead.later) u))
      both_way k =
          leads_by (next (stage_of q r ahead.next (Some ahead.later) u))
          (ap₂ (λ es ps. next (stage_under r (q ahead.next ∷ q ahead.later ∷ es) (map problem_for ps))) g i
          ∙ turned turns.Both k (waiting_equations q o ++ equations_left v) (problems_met v) ∙ same_behind)

      pub other_way : turn ≡ turns.Other → (p : Progress) → LeadsTo (stage_with q r ahead.next u) p → LeadsTo before p
      other_way k p h =
          let m = turned turns.Other k in
          let es = waiting_equations q o ++ equations_left w in
          let l : equations_left u ≡ es = g ∙ ap (λ xs. waiting_equations q o ++ map pair_equation (reverse xs)) e in
          let j : problems_met u ≡ problems_met w = ap (map problem_for) (i ∙ f) in
          let one : LeadsTo (stage_under s (q ahead.next ∷ equations_left u) (problems_met u)) p =
          subst (λ b. LeadsTo (stage_under b (q ahead.next ∷ equations_left u) (problems_met u)) p) m.0 h in
          let two : LeadsTo (stage_under s (q ahead.next ∷ es) (problems_met u)) p = subst (λ xs. LeadsTo (stage_under s (q ahead.next ∷ xs) (problems_met u)) p) l one in
          leads_alike s (q ahead.next) (q pair) es (problems_met w) p m.1 (subst (λ xs. LeadsTo (stage_under s (q ahead.next ∷ es) xs) p) j two)
