-- Parts that stand for one term already, so that nothing is left of their equation.
use Rattle.std.proofs.Common.{◌≡◌, ◌==◌, ◌&&◌, ℕ, zero, suc, true, false, List, [], ◌∷◌, ◌++◌, inl, map, refl, sym, subst, ap, ap₂, ◌∙◌, append-nil, arith}
use Rattle.std.proofs.lemmas.Bool.Decides.{nat_tests}
use Rattle.std.specs.BTreeSet.{contains}
use Rattle.std.specs.Ordering.{is_eq, nat_cmp, ordering_then}
use Rattle.std.specs.Prelude.{Option, if◌then◌else◌}
use Rattle.std.specs.declared.cmp.Ordering.{Ordering}
use Rattle.std.specs.declared.cmp.Ordering.TheVariants.{Less, Equal, Greater}
use Rattle.ap_defs.specs.Freshness.{var_eq}
use Rattle.ap_defs.specs.Permutations.{disagreement, name_eq, swap_of}
use Rattle.ap_defs.specs.Substitution.{Binding, Equation, Problem, under, ◌#◌, ◌≐◌}
use Rattle.ap_defs.specs.Terms.{NominalTerm, abs, act_term, app, name, pair, susp, unit}
use Rattle.ap_defs.specs.Unification.{Progress, Rule, Stage, apply_rule, clash, done, failed, fresh_for, next, replace, rule}
use Rattle.ap_defs.specs.declared.terms.Name.{Name}
use Rattle.ap_defs.specs.declared.terms.Var.{Var}
use Rattle.ap_equations.specs.Plain.{plain_term}
use Rattle.ap_equations.specs.declared.plain.PlainPair.{PlainPair}
use Rattle.ap_rules.proofs.SuspensionLemmas.{form_under}
use Rattle.ap_rules.specs.Runs.{equation_under, problem_under, stage_under}
use Rattle.ap_rules.specs.Work.{GoOn, equations_left, problems_met}
use Rattle.ap_rules.specs.declared.pairs.Work.{Work}
use Rattle.ap_store.specs.Heads.{HasForm}
use Rattle.ap_store.specs.Triples.{Triple}
use Rattle.ap_theory.proofs.BooleanLemmas.{and_left, and_right}
use Rattle.ap_theory.proofs.DisagreementLemmas.{disagreement_none}
use Rattle.ap_theory.proofs.PermutationLemmas.{name_eq_itself, name_eq_same}
use Rattle.ap_theory.proofs.TermLemmas.{var_same}
use Rattle.ap_unify.proofs.AlikeLemmas.{alike_itself}
use Rattle.ap_unify.specs.Parts.{IsReached, IsRuleFor, LeadsTo, parts_equation, rule_of, stage_of, waiting_equations}
use Rattle.ap_unify.specs.Settled.{AllSame, AreSame, AreSettled, MakesSame, pair_cmp}
use Rattle.ap_unify.specs.declared.settled.Settled.{Settled}
use Rattle.ap_unify.specs.declared.parts.Ahead.{Ahead}
use Rattle.ap_unify.specs.declared.parts.Turn.{Turn}
use Rattle.ap_unify.specs.declared.parts.Turn.TheVariants as turns

none_next : (r : Stage) → failed ≡ next r → ⊥
none_next r e = cc

some_none : (p : Problem) → p ∷ [] ≡ [] → ⊥
some_none p e = cc

same_number : (m n : ℕ) → (m == n) ≡ true → m ≡ n
same_number m n h = grind (arith, nat_tests)

number_itself : (n : ℕ) → (n == n) ≡ true
number_itself n = grind (arith, nat_tests)

var_itself : (x : Var) → var_eq x x ≡ true
var_itself x = number_itself x.num

abbrev equations_in : Progress → List Equation
equations_in (next r) = r.equations
equations_in _ = []

abbrev problems_in : Progress → List Problem
problems_in (next r) = r.problems
problems_in _ = []

-- both sides of each equation are the same
abbrev AllEqual : List Equation → Type 0
AllEqual [] = Unit {0}
AllEqual ((t ≐ u) ∷ es) = (t ≡ u) × AllEqual es

module _ (s : List Binding) where
  abbrev of_all : List Equation → Stage
  of_all es = record { equations = es; problems = []; bindings = s }

  abbrev swapped : Name → Name → NominalTerm → NominalTerm → Rule
  swapped a b u t = if a.sort == b.sort then replace ((t ≐ act_term (swap_of a b ∷ []) u) ∷ []) ((a # u) ∷ []) else clash

  -- what two forms reduce to without problems makes them the same, once its sides are
  by_rule : (t u : NominalTerm) → HasForm t → HasForm u → (es : List Equation) → apply_rule (rule t u) [] [] s ≡ next (of_all es) → AllEqual es → t ≡ u
  by_rule unit unit h k es e q = refl
  by_rule unit (name b) h k es e q = absurd (none_next (of_all es) e)
  by_rule unit (pair v z) h k es e q = absurd (none_next (of_all es) e)
  by_rule unit (app g z) h k es e q = absurd (none_next (of_all es) e)
  by_rule unit (abs b z) h k es e q = absurd (none_next (of_all es) e)
  by_rule (name a) unit h k es e q = absurd (none_next (of_all es) e)
  by_rule (name a) (name b) h k es e q =
      let l : a ≡ b = (elim (name_eq a b) as (λ v. name_eq a b ≡ v → apply_rule (if v then replace [] [] else clash) [] [] s ≡ next (of_all es) → a ≡ b) [
        | true ↦ λ g i. name_eq_same a b g
        | false ↦ λ g i. absurd (none_next (of_all es) i)
      ] refl) e in
      ap name l
  by_rule (name a) (pair v z) h k es e q = absurd (none_next (of_all es) e)
  by_rule (name a) (app g z) h k es e q = absurd (none_next (of_all es) e)
  by_rule (name a) (abs b z) h k es e q = absurd (none_next (of_all es) e)
  by_rule (pair t u) unit h k es e q = absurd (none_next (of_all es) e)
  by_rule (pair t u) (name b) h k es e q = absurd (none_next (of_all es) e)
  by_rule (pair t u) (pair v w) h k es e q =
      let l : AllEqual ((t ≐ v) ∷ (u ≐ w) ∷ []) = subst AllEqual (sym (ap equations_in e)) q in
      ap₂ pair l.0 l.1.0
  by_rule (pair t u) (app g z) h k es e q = absurd (none_next (of_all es) e)
  by_rule (pair t u) (abs b z) h k es e q = absurd (none_next (of_all es) e)
  by_rule (app f t) unit h k es e q = absurd (none_next (of_all es) e)
  by_rule (app f t) (name b) h k es e q = absurd (none_next (of_all es) e)
  by_rule (app f t) (pair v z) h k es e q = absurd (none_next (of_all es) e)
  by_rule (app f t) (app g u) h k es e q =
      let l : (f ≡ g) × (t ≡ u) = (elim (f == g) as (λ v. (f == g) ≡ v → apply_rule (if v then replace ((t ≐ u) ∷ []) [] else clash) [] [] s ≡ next (of_all es) → (f ≡ g) × (t ≡ u)) [
        | true ↦ λ i j. let m : AllEqual ((t ≐ u) ∷ []) = subst AllEqual (sym (ap equations_in j)) q in (same_number f g i, m.0)
        | false ↦ λ i j. absurd (none_next (of_all es) j)
      ] refl) e in
      ap₂ app l.0 l.1
  by_rule (app f t) (abs b z) h k es e q = absurd (none_next (of_all es) e)
  by_rule (abs a t) unit h k es e q = absurd (none_next (of_all es) e)
  by_rule (abs a t) (name b) h k es e q = absurd (none_next (of_all es) e)
  by_rule (abs a t) (pair v z) h k es e q = absurd (none_next (of_all es) e)
  by_rule (abs a t) (app g z) h k es e q = absurd (none_next (of_all es) e)
  by_rule (abs a t) (abs b u) h k es e q =
      let l : (a ≡ b) × (t ≡ u) = (elim (name_eq a b) as (λ v. name_eq a b ≡ v → apply_rule (if v then replace ((t ≐ u) ∷ []) [] else swapped a b u t) [] [] s ≡ next (of_all es) → (a ≡ b) × (t ≡ u)) [
        | true ↦ λ i j. let m : AllEqual ((t ≐ u) ∷ []) = subst AllEqual (sym (ap equations_in j)) q in (name_eq_same a b i, m.0)
        | false ↦ λ i. elim (a.sort == b.sort) as (λ v. apply_rule (if v then replace ((t ≐ act_term (swap_of a b ∷ []) u) ∷ []) ((a # u) ∷ []) else clash) [] [] s ≡ next (of_all es) → (a ≡ b) × (t ≡ u)) [
          | true ↦ λ j. absurd (some_none (a # u) (ap problems_in j))
          | false ↦ λ j. absurd (none_next (of_all es) j)
        ]
      ] refl) e in
      ap₂ abs l.0 l.1
  by_rule unit (susp q y) h k es e z = absurd k
  by_rule (name a) (susp q y) h k es e z = absurd k
  by_rule (pair t u) (susp q y) h k es e z = absurd k
  by_rule (app f t) (susp q y) h k es e z = absurd k
  by_rule (abs a t) (susp q y) h k es e z = absurd k
  by_rule (susp p x) u h k es e z = absurd h

  pub makes_same : (turn : Turn) (f : Ahead) (p : PlainPair) → HasForm (plain_term p.left) → HasForm (plain_term p.right) → IsRuleFor parts_equation turn f s s (rule_of parts_equation s p)
      → MakesSame s turn f p
  makes_same turns.Clash f p h k r = tt
  makes_same turns.Other f p h k r = tt
  makes_same turns.Done f p h k r =
      by_rule (under s (plain_term p.left)) (under s (plain_term p.right)) (form_under s (plain_term p.left) h) (form_under s (plain_term p.right) k) [] (sym (r [] [])) tt
  makes_same turns.On f p h k r = λ l.
      by_rule (under s (plain_term p.left)) (under s (plain_term p.right)) (form_under s (plain_term p.left) h) (form_under s (plain_term p.right) k)
      (equation_under s (parts_equation f.next) ∷ []) (sym (r [] [])) (l, tt)
  makes_same turns.Both f p h k r = λ l m.
      by_rule (under s (plain_term p.left)) (under s (plain_term p.right)) (form_under s (plain_term p.left) h) (form_under s (plain_term p.right) k)
      (equation_under s (parts_equation f.next) ∷ equation_under s (parts_equation f.later) ∷ []) (sym (r [] [])) (l, (m, tt))

  -- in the place of parts that stand for the same
  pub makes_same_for : (turn : Turn) (f : Ahead) (p q : PlainPair) → under s (plain_term q.left) ≡ under s (plain_term p.left) → under s (plain_term q.right) ≡ under s (plain_term p.right)
      → MakesSame s turn f q → MakesSame s turn f p
  makes_same_for turns.Clash f p q h k m = tt
  makes_same_for turns.Other f p q h k m = tt
  makes_same_for turns.Done f p q h k m = sym h ∙ m ∙ k
  makes_same_for turns.On f p q h k m = λ l. sym h ∙ m l ∙ k
  makes_same_for turns.Both f p q h k m = λ l n. sym h ∙ m l n ∙ k

  abbrev equal_in_front : NominalTerm → NominalTerm → List Equation → List Problem → Stage
  equal_in_front t u es ps = record { equations = (t ≐ u) ∷ es; problems = ps; bindings = s }

  abbrev without : List Equation → List Problem → Stage
  without es ps = record { equations = es; problems = ps; bindings = s }

  then_steps : (n m : ℕ) (a b : Stage) (q : Progress) → IsReached n a (next b) → IsReached m b q → (k : ℕ) × IsReached k a q
  then_steps zero m a b q e k = (suc m, (b, e, k))
  then_steps (suc n) m a b q (o, e, h) k = let l = then_steps n m o b q h k in (suc l.0, (o, e, l.1))

  -- nothing is left of an equation of a term with itself
  itself : (t : NominalTerm) (es : List Equation) (ps : List Problem) → (n : ℕ) × IsReached n (equal_in_front t t es ps) (next (without es ps))
  itself unit es ps = (0, inl (ap (λ xs. next (without es xs)) (append-nil ps)))
  itself (name a) es ps =
      (0, inl (ap (λ b. apply_rule (if b then replace [] [] else clash) es ps s) (name_eq_itself a) ∙ ap (λ xs. next (without es xs)) (append-nil ps)))
  itself (pair t u) es ps =
      let a = itself t ((u ≐ u) ∷ es) ps in
      let b = itself u es ps in
      let c = then_steps a.0 b.0 (equal_in_front t t ((u ≐ u) ∷ es) ps) (equal_in_front u u es ps) (next (without es ps)) a.1 b.1 in
      (suc c.0, (equal_in_front t t ((u ≐ u) ∷ es) ps, inl (ap (λ xs. next (equal_in_front t t ((u ≐ u) ∷ es) xs)) (append-nil ps)), c.1))
  itself (app f t) es ps =
      let a = itself t es ps in
      (suc a.0, (equal_in_front t t es ps, inl (ap (λ b. apply_rule (if b then replace ((t ≐ t) ∷ []) [] else clash) es ps s) (number_itself f) ∙ ap (λ xs. next (equal_in_front t t es xs)) (append-nil ps)), a.1))
  itself (abs c t) es ps =
      let a = itself t es ps in
      (suc a.0, (equal_in_front t t es ps, inl (ap (λ b. apply_rule (if b then replace ((t ≐ t) ∷ []) [] else swapped c c t t) es ps s) (name_eq_itself c) ∙ ap (λ xs. next (equal_in_front t t es xs)) (append-nil ps)), a.1))
  itself (susp p x) es ps =
      (0, inl (rw (var_itself x) (ap (λ (cs : List Name). next (without es (ps ++ map (fresh_for x) cs))) (disagreement_none p p (λ c. refl)) ∙ ap (λ xs. next (without es xs)) (append-nil ps))))

  pub settled_way : (p : PlainPair) (o : Option PlainPair) (w : Work) → AreSame s p
      → LeadsTo (stage_of parts_equation s p o w) (next (stage_under s (waiting_equations parts_equation o ++ equations_left w) (problems_met w)))
  settled_way p o w h =
      let es = map (equation_under s) (waiting_equations parts_equation o ++ equations_left w) in
      let ps = map (problem_under s) (problems_met w) in
      let t = under s (plain_term p.left) in
      let a = itself t es ps in
      subst (λ (u : NominalTerm). LeadsTo (equal_in_front t u es ps) (next (without es ps))) h (a.0, next (without es ps), a.1, alike_itself (next (without es ps)))

-- what stands for one term does so after more steps
pub settled_on : (a b : Triple) (w v : Work) (k : Settled) → AreSettled a.bindings k → GoOn a w b v → AreSettled b.bindings k
settled_on a b w v k h g x y e = g.same (susp [] x) (susp [] y) (h x y e)

-- two parts that stand for one variable
pub same_variable : (s : List Binding) (p : PlainPair) (x y : Var) (t u : NominalTerm) → under s t ≡ under s (plain_term p.left) → under s u ≡ under s (plain_term p.right) → t ≡ susp [] x → u ≡ susp [] y
    → x.num ≡ y.num → AreSame s p
same_variable s p x y t u h k e f g = sym h ∙ ap (under s) (e ∙ ap (susp []) (var_same x y (subst (λ n. (x.num == n) ≡ true) g (number_itself x.num))) ∙ sym f) ∙ k

at_number : (m n : ℕ) → is_eq (nat_cmp m n) ≡ (m == n)
at_number m n = grind (arith, nat_tests)

eq_then : (a b : Ordering) → is_eq (ordering_then a b) ≡ (is_eq a && is_eq b)
eq_then Less b = refl
eq_then Equal b = refl
eq_then Greater b = refl

-- keys are the same of the same variables
same_variables : (x y a b : Var) → is_eq (pair_cmp (x.num, y.num) (a.num, b.num)) ≡ true → (x ≡ a) × (y ≡ b)
same_variables x y a b h =
    let e : ((x.num == a.num) && (y.num == b.num)) ≡ true = sym (eq_then (nat_cmp x.num a.num) (nat_cmp y.num b.num) ∙ ap₂ ◌&&◌ (at_number x.num a.num) (at_number y.num b.num)) ∙ h in
    (var_same x a (and_left (x.num == a.num) (y.num == b.num) e), var_same y b (and_right (x.num == a.num) (y.num == b.num) e))

-- one more pair of variables that stand for one term
pub one_settled : (s : List Binding) (k m : Settled) (x y : Var)
    → ((q : ℕ × ℕ) → contains pair_cmp m.pairs q ≡ (if is_eq (pair_cmp (x.num, y.num) q) then true else contains pair_cmp k.pairs q))
    → under s (susp [] x) ≡ under s (susp [] y) → AreSettled s k → AreSettled s m
one_settled s k m x y put h old a b e =
    (elim (is_eq (pair_cmp (x.num, y.num) (a.num, b.num))) as (λ v. is_eq (pair_cmp (x.num, y.num) (a.num, b.num)) ≡ v → (if v then true else contains pair_cmp k.pairs (a.num, b.num)) ≡ true → under s (susp [] a) ≡ under s (susp [] b)) [
      | true ↦ λ i j. let g = same_variables x y a b i in ap (λ z. under s (susp [] z)) (sym g.0) ∙ h ∙ ap (λ z. under s (susp [] z)) g.1
      | false ↦ λ i j. old a b j
    ] refl) (sym (put (a.num, b.num)) ∙ e)

module _ (s : List Binding) (p : PlainPair) where
  all_more : (ps : List PlainPair) → AllSame s ps → AreSame s p → AllSame s (ps ++ p ∷ [])
  all_more [] h k = (k, tt)
  all_more (q ∷ ps) h k = (h.0, all_more ps h.1 k)

  all_front : (ps : List PlainPair) → AllSame s (ps ++ p ∷ []) → AllSame s ps × AreSame s p
  all_front [] h = (tt, h.0)
  all_front (q ∷ ps) h = let k = all_front ps h.1 in ((h.0, k.0), k.1)

-- One turn of a look: what it leaves, and what waits.
module _ (s : List Binding) (first here : PlainPair) (f : Ahead) (old new : List PlainPair) (known : AreSame s here → AllSame s old → AreSame s first) where
  pub looked_on : MakesSame s turns.On f here → AreSame s f.next → AllSame s old → AreSame s first
  looked_on m h k = known (m h) k

  pub looked_both : MakesSame s turns.Both f here → new ≡ old ++ f.later ∷ [] → AreSame s f.next → AllSame s new → AreSame s first
  looked_both m e h k = let l = all_front s f.later old (subst (AllSame s) e k) in known (m h l.1) l.0

  pub looked_done : MakesSame s turns.Done f here → (other : PlainPair) → old ≡ new ++ other ∷ [] → AreSame s other → AllSame s new → AreSame s first
  looked_done m other e h k = known m (subst (AllSame s) (sym e) (all_more s other new k h))
