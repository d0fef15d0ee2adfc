-- Each rule of unification keeps the substitutions that solve a stage, under any set of conditions.
use Rattle.std.proofs.Common.{subst, ◌≡◌, ◌<◌, ℕ, zero, suc, Bool, true, false, List, [], ◌∷◌, ◌++◌, map, refl, sym, inl, inr, arith, ◌↔◌}
use Rattle.std.specs.Prelude.{if◌then◌else◌, nat_lt}
use Rattle.std.proofs.lemmas.Bool.Decides.{eqb_tells}
use Rattle.ap_defs.specs.Freshness.{var_eq}
use Rattle.ap_defs.specs.Permutations.{disagreement, has_name, inverse, name_eq, swap_of}
use Rattle.ap_defs.specs.Substitution.{Binding, Equation, Problem, occurs, put, put_binding, put_equation, put_problem, ◌#◌, ◌:=◌, ◌≐◌}
use Rattle.ap_defs.specs.Terms.{NominalTerm, abs, act_term, app, name, pair, susp, unit}
use Rattle.ap_defs.specs.Unification.{Ending, Progress, Rule, Stage, ending_after, apply_rule, bind, clash, done, failed, fresh_for, next, replace, rule, run, size, solved, step, step_of, unfinished, unless_occurs, unsolvable}
use Rattle.ap_defs.specs.declared.terms.Name.{Name}
use Rattle.ap_defs.specs.declared.terms.Swap.{Swap}
use Rattle.ap_defs.specs.declared.terms.Var.{Var}
use Rattle.ap_theory.specs.Contexts.{Context, Equal, Fresh}
use Rattle.ap_theory.specs.Substitutions.{Agrees, Equates, Freshens, Substitution, applied}
use Rattle.ap_theory.proofs.BooleanLemmas.{or_cases, or_if_right}
use Rattle.ap_theory.proofs.DisagreementLemmas.{differing_disagree, disagree_differing, has_front}
use Rattle.ap_theory.proofs.EqualityLemmas.{Equal_differ, Equal_itself, Equal_move, Equal_sym, Equal_trans, Fresh_both, differ_Equal, size_Equal}
use Rattle.ap_theory.proofs.LogicLemmas.{iff_both, iff_itself, iff_nothing, iff_same, iff_trans}
use Rattle.ap_theory.proofs.PermutationLemmas.{name_eq_same, name_tells}
use Rattle.ap_theory.proofs.SubstitutionLemmas.{applied_act, applied_congruent, applied_put, single, size_occurs_most}
use Rattle.ap_theory.proofs.TermLemmas.{act_term-append, act_term_none, size_act_term, var_same}
use Rattle.ap_theory.proofs.TerminationLemmas.{HasEnded}

-- what a rule leaves to be solved
abbrev pub RuleHolds : Context → Substitution → Rule → Type 0
RuleHolds d s (replace new qs) = Equates d s new × Freshens d s qs
RuleHolds d s (bind x v) = Equal d (s x) (applied s v)
RuleHolds d s clash = ⊥

-- the substitution solves what the stage has
abbrev pub Solves : Context → Substitution → Stage → Type 0
Solves d s r = Equates d s r.equations × Freshens d s r.problems × Agrees d s r.bindings

abbrev SolvesNext : Context → Substitution → Stage → Progress → Type 0
SolvesNext d s r done = Solves d s r
SolvesNext d s r failed = ⊥
SolvesNext d s r (next r') = Solves d s r'

abbrev pub SolvesEnding : Context → Substitution → Ending → Type 0
SolvesEnding d s unfinished = ⊥
SolvesEnding d s unsolvable = ⊥
SolvesEnding d s (solved r) = Solves d s r

module _ (d : Context) (s : Substitution) where
  Equal_flip : (t u : NominalTerm) → Equal d t u ↔ Equal d u t
  Equal_flip t u = (Equal_sym d t u, Equal_sym d u t)

  -- a suspension and another term
  bind_Holds : (p : List Swap) (x : Var) (u : NominalTerm) → (occurs x u ≡ true → size (s x) < size (applied s u))
      → Equal d (act_term p (s x)) (applied s u) ↔ RuleHolds d s (unless_occurs x u (act_term (inverse p) u))
  bind_Holds p x u lt =
      elim (occurs x u) as (λ v. occurs x u ≡ v → Equal d (act_term p (s x)) (applied s u) ↔ RuleHolds d s (if v then clash else bind x (act_term (inverse p) u))) [
        | true ↦ λ e. iff_nothing (λ h.
            let a : size (act_term p (s x)) ≡ size (applied s u) = size_Equal d (act_term p (s x)) (applied s u) h in
            let b : size (act_term p (s x)) ≡ size (s x) = size_act_term p (s x) in
            let c : size (s x) < size (applied s u) = lt e in
            omega arith)
        | false ↦ λ e. iff_trans (Equal_move d p (s x) (applied s u)) (iff_same (Equal d (s x)) (sym (applied_act s (inverse p) u)))
      ] refl

  flipped_bind_Holds : (q : List Swap) (y : Var) (t : NominalTerm) → (occurs y t ≡ true → size (s y) < size (applied s t))
      → Equal d (applied s t) (act_term q (s y)) ↔ RuleHolds d s (unless_occurs y t (act_term (inverse q) t))
  flipped_bind_Holds q y t lt = iff_trans (Equal_flip (applied s t) (act_term q (s y))) (bind_Holds q y t lt)

  -- two suspensions of different variables
  bind_either_Holds : (p : List Swap) (x : Var) (q : List Swap) (y : Var) (b : Bool)
      → Equal d (act_term p (s x)) (act_term q (s y)) ↔ RuleHolds d s (if b then bind y (susp (inverse q ++ p) x) else bind x (susp (inverse p ++ q) y))
  bind_either_Holds p x q y true =
      iff_trans (Equal_flip (act_term p (s x)) (act_term q (s y)))
      (iff_trans (Equal_move d q (s y) (act_term p (s x))) (iff_same (Equal d (s y)) (sym (act_term-append (inverse q) p (s x)))))
  bind_either_Holds p x q y false = iff_trans (Equal_move d p (s x) (act_term q (s y))) (iff_same (Equal d (s x)) (sym (act_term-append (inverse p) q (s y))))

  Freshens_for : (x : Var) (cs : List Name) → Freshens d s (map (fresh_for x) cs) ↔ ((c : Name) → has_name c cs ≡ true → Fresh d c (s x))
  Freshens_for x [] = ((λ h c m. cc), (λ h. tt))
  Freshens_for x (b ∷ bs) =
      let k : Freshens d s (map (fresh_for x) bs) ↔ ((c : Name) → has_name c bs ≡ true → Fresh d c (s x)) = Freshens_for x bs in (
        (λ h c m. elim (or_cases (name_eq c b) (has_name c bs) m) [
          | inl e ↦ subst (λ (n : Name). Fresh d n (s x)) (sym (name_eq_same c b e)) (subst (Fresh d b) (act_term_none (s x)) h.0)
          | inr l ↦ k.0 h.1 c l
        ]),
        (λ h. (subst (Fresh d b) (sym (act_term_none (s x))) (h b (has_front b bs)), k.1 (λ c m. h c (or_if_right (name_eq c b) (has_name c bs) m)))),
      )

  -- two suspensions of one variable
  Equal_disagreement : (p q : List Swap) (x : Var) → Equal d (act_term p (s x)) (act_term q (s x)) ↔ Freshens d s (map (fresh_for x) (disagreement p q))
  Equal_disagreement p q x =
      let each = Freshens_for x (disagreement p q) in (
        (λ h. each.1 (λ c m. Equal_differ d (s x) p q h c (disagree_differing p q c m))),
        (λ h. differ_Equal d (s x) p q (λ c n. each.0 h c (differing_disagree p q c n))),
      )

  susps_Hold : (p : List Swap) (x : Var) (q : List Swap) (y : Var) → Equal d (act_term p (s x)) (act_term q (s y)) ↔ RuleHolds d s (rule (susp p x) (susp q y))
  susps_Hold p x q y =
      elim (var_eq x y) as (λ v. var_eq x y ≡ v → Equal d (act_term p (s x)) (act_term q (s y)) ↔ RuleHolds d s (if v then replace [] (map (fresh_for x) (disagreement p q)) else (if nat_lt x.num y.num then bind y (susp (inverse q ++ p) x) else bind x (susp (inverse p ++ q) y)))) [
        | true ↦ λ e. iff_trans (iff_same (λ z. Equal d (act_term p (s x)) (act_term q (s z))) (sym (var_same x y e))) (iff_trans (Equal_disagreement p q x) ((λ h. (tt, h)), (λ h. h.1)))
        | false ↦ λ e. bind_either_Holds p x q y (nat_lt x.num y.num)
      ] refl

  -- two abstractions
  abs_Holds : (a : Name) (t : NominalTerm) (b : Name) (u : NominalTerm)
      → Equal d (abs a (applied s t)) (abs b (applied s u)) ↔ RuleHolds d s (rule (abs a t) (abs b u))
  abs_Holds a t b u =
      elim (name_tells a b) [
        | inl w ↦ rw w.0 ((λ h. elim h [ inl k ↦ ((k.1, tt), tt) | inr k ↦ absurd (k.0 w.1) ]), (λ h. inl (w.1, h.0.0)))
        | inr w ↦ elim (eqb_tells a.sort b.sort) [
          | inl v ↦ rw (w.0, v.0) (
            (λ h. elim h [ inl k ↦ absurd (w.1 k.0) | inr k ↦ ((subst (Equal d (applied s t)) (sym (applied_act s (swap_of a b ∷ []) u)) k.2, tt), (k.3, tt)) ]),
            (λ h. inr (w.1, v.1, subst (Equal d (applied s t)) (applied_act s (swap_of a b ∷ []) u) h.0.0, h.1.0)),
          )
          | inr v ↦ rw (w.0, v.0) (iff_nothing (λ h. elim h [ inl k ↦ w.1 k.0 | inr k ↦ v.1 k.1 ]))
        ]
      ]

  size_pair_occurs : (x : Var) (t u : NominalTerm) → occurs x (pair t u) ≡ true → size (s x) < size (applied s (pair t u))
  size_pair_occurs x t u h =
      elim (or_cases (occurs x t) (occurs x u) h) [ inl e ↦ let l = size_occurs_most s x t e in omega arith | inr e ↦ let l = size_occurs_most s x u e in omega arith ]

  size_app_occurs : (x : Var) (f : ℕ) (t : NominalTerm) → occurs x t ≡ true → size (s x) < size (applied s (app f t))
  size_app_occurs x f t h = let l = size_occurs_most s x t h in omega arith

  size_abs_occurs : (x : Var) (a : Name) (t : NominalTerm) → occurs x t ≡ true → size (s x) < size (applied s (abs a t))
  size_abs_occurs x a t h = let l = size_occurs_most s x t h in omega arith

  -- an equation holds just where what its rule leaves holds
  pub rule_Holds : (t u : NominalTerm) → Equal d (applied s t) (applied s u) ↔ RuleHolds d s (rule t u)
  rule_Holds unit unit = ((λ h. (tt, tt)), (λ h. tt))
  rule_Holds (name a) (name b) = elim (name_tells a b) [ inl w ↦ rw w.0 ((λ h. (tt, tt)), (λ h. w.1)) | inr w ↦ rw w.0 (iff_nothing w.1) ]
  rule_Holds (pair t u) (pair v w) = ((λ h. ((h.0, (h.1, tt)), tt)), (λ h. (h.0.0, h.0.1.0)))
  rule_Holds (app f t) (app g u) = elim (eqb_tells f g) [ inl w ↦ rw w.0 ((λ h. ((h.1, tt), tt)), (λ h. (w.1, h.0.0))) | inr w ↦ rw w.0 (iff_nothing (λ h. w.1 h.0)) ]
  rule_Holds (abs a t) (abs b u) = abs_Holds a t b u
  rule_Holds (susp p x) (susp q y) = susps_Hold p x q y
  rule_Holds (susp p x) unit = bind_Holds p x unit (λ e. cc)
  rule_Holds (susp p x) (name a) = bind_Holds p x (name a) (λ e. cc)
  rule_Holds (susp p x) (pair t u) = bind_Holds p x (pair t u) (size_pair_occurs x t u)
  rule_Holds (susp p x) (app f t) = bind_Holds p x (app f t) (size_app_occurs x f t)
  rule_Holds (susp p x) (abs a t) = bind_Holds p x (abs a t) (size_abs_occurs x a t)
  rule_Holds unit (susp q y) = flipped_bind_Holds q y unit (λ e. cc)
  rule_Holds (name a) (susp q y) = flipped_bind_Holds q y (name a) (λ e. cc)
  rule_Holds (pair t u) (susp q y) = flipped_bind_Holds q y (pair t u) (size_pair_occurs y t u)
  rule_Holds (app f t) (susp q y) = flipped_bind_Holds q y (app f t) (size_app_occurs y f t)
  rule_Holds (abs a t) (susp q y) = flipped_bind_Holds q y (abs a t) (size_abs_occurs y a t)
  rule_Holds _ _ = iff_itself

  -- equal terms may stand for each other
  pub Equal_both : (t v u w : NominalTerm) → Equal d t v → Equal d u w → Equal d t u ↔ Equal d v w
  Equal_both t v u w h k = (
    (λ e. Equal_trans d v t w (Equal_sym d t v h) (Equal_trans d t u w e k)),
    (λ e. Equal_trans d t v u h (Equal_trans d v w u e (Equal_sym d u w k))),
  )

  Equal_put_or_itself : (x : Var) (v : NominalTerm) → Equal d (s x) (applied s v) → (y : Var) → Equal d (s y) (applied s (single x v y))
  Equal_put_or_itself x v e y =
      elim (var_eq x y) as (λ b. var_eq x y ≡ b → Equal d (s y) (applied s (if b then v else susp [] y))) [
        | true ↦ λ k. subst (λ (z : Var). Equal d (s z) (applied s v)) (var_same x y k) e
        | false ↦ λ k. subst (Equal d (s y)) (sym (act_term_none (s y))) (Equal_itself d (s y))
      ] refl

  -- A binding that holds may be carried out.
  pub put_Equal : (x : Var) (v : NominalTerm) → Equal d (s x) (applied s v) → (t : NominalTerm) → Equal d (applied s t) (applied s (put x v t))
  put_Equal x v e t =
      subst (Equal d (applied s t)) (sym (applied_put s x v t)) (applied_congruent d s (λ y. applied s (single x v y)) t (λ y o. Equal_put_or_itself x v e y))

  put_Equates : (x : Var) (v : NominalTerm) → Equal d (s x) (applied s v) → (es : List Equation) → Equates d s es ↔ Equates d s (map (put_equation x v) es)
  put_Equates x v e [] = iff_itself
  put_Equates x v e ((t ≐ u) ∷ es) =
      iff_both (Equal_both (applied s t) (applied s (put x v t)) (applied s u) (applied s (put x v u)) (put_Equal x v e t) (put_Equal x v e u)) (put_Equates x v e es)

  put_Freshens : (x : Var) (v : NominalTerm) → Equal d (s x) (applied s v) → (ps : List Problem) → Freshens d s ps ↔ Freshens d s (map (put_problem x v) ps)
  put_Freshens x v e [] = iff_itself
  put_Freshens x v e ((a # t) ∷ ps) = iff_both (Fresh_both d a (applied s t) (applied s (put x v t)) (put_Equal x v e t)) (put_Freshens x v e ps)

  put_Agrees : (x : Var) (v : NominalTerm) → Equal d (s x) (applied s v) → (bs : List Binding) → Agrees d s bs ↔ Agrees d s (map (put_binding x v) bs)
  put_Agrees x v e [] = iff_itself
  put_Agrees x v e ((y := t) ∷ bs) =
      iff_both (Equal_both (s y) (s y) (applied s t) (applied s (put x v t)) (Equal_itself d (s y)) (put_Equal x v e t)) (put_Agrees x v e bs)

  pub Equates-append : (es fs : List Equation) → Equates d s (es ++ fs) ↔ (Equates d s es × Equates d s fs)
  Equates-append [] fs = ((λ h. (tt, h)), (λ h. h.1))
  Equates-append ((t ≐ u) ∷ es) fs =
      let k : Equates d s (es ++ fs) ↔ (Equates d s es × Equates d s fs) = Equates-append es fs in
      ((λ h. ((h.0, (k.0 h.1).0), (k.0 h.1).1)), (λ h. (h.0.0, k.1 (h.0.1, h.1))))

  pub Freshens-append : (ps qs : List Problem) → Freshens d s (ps ++ qs) ↔ (Freshens d s ps × Freshens d s qs)
  Freshens-append [] qs = ((λ h. (tt, h)), (λ h. h.1))
  Freshens-append ((a # t) ∷ ps) qs =
      let k : Freshens d s (ps ++ qs) ↔ (Freshens d s ps × Freshens d s qs) = Freshens-append ps qs in
      ((λ h. ((h.0, (k.0 h.1).0), (k.0 h.1).1)), (λ h. (h.0.0, k.1 (h.0.1, h.1))))

  apply_rule_Solves : (r : Rule) (es : List Equation) (ps : List Problem) (bs : List Binding) (whole : Stage)
      → (RuleHolds d s r × Equates d s es × Freshens d s ps × Agrees d s bs) ↔ SolvesNext d s whole (apply_rule r es ps bs)
  apply_rule_Solves (replace new qs) es ps bs whole =
      let k = Equates-append new es in
      let l = Freshens-append ps qs in (
        (λ h. (k.1 (h.0.0, h.1), l.1 (h.2, h.0.1), h.3)),
        (λ h. (((k.0 h.0).0, (l.0 h.1).1), (k.0 h.0).1, (l.0 h.1).0, h.2)),
      )
  apply_rule_Solves (bind x v) es ps bs whole = (
    (λ h. ((put_Equates x v h.0 es).0 h.1, (put_Freshens x v h.0 ps).0 h.2, (h.0, (put_Agrees x v h.0 bs).0 h.3))),
    (λ h. (h.2.0, (put_Equates x v h.2.0 es).1 h.0, (put_Freshens x v h.2.0 ps).1 h.1, (put_Agrees x v h.2.0 bs).1 h.2.1)),
  )
  apply_rule_Solves clash es ps bs whole = iff_nothing (λ h. h.0)

  step_Solves : (es : List Equation) (ps : List Problem) (bs : List Binding)
      → Solves d s (record { equations = es; problems = ps; bindings = bs }) ↔ SolvesNext d s (record { equations = es; problems = ps; bindings = bs }) (step_of es ps bs)
  step_Solves [] ps bs = iff_itself
  step_Solves ((t ≐ u) ∷ es) ps bs =
      let k = rule_Holds t u in
      iff_trans
      ((λ h. (k.0 h.0.0, h.0.1, h.1, h.2)), (λ h. ((k.1 h.0, h.1), h.2, h.3)))
      (apply_rule_Solves (rule t u) es ps bs (record { equations = (t ≐ u) ∷ es; problems = ps; bindings = bs }))

  after_Solves : (k : ℕ) (r : Stage) → ((r' : Stage) → HasEnded (run k r') → Solves d s r' ↔ SolvesEnding d s (run k r')) → (p : Progress)
      → HasEnded (ending_after (run k) r p) → Solves d s r ↔ SolvesNext d s r p → Solves d s r ↔ SolvesEnding d s (ending_after (run k) r p)
  after_Solves k r go done e h = h
  after_Solves k r go failed e h = h
  after_Solves k r go (next r') e h = iff_trans h (go r' e)

  -- A run keeps the substitutions that solve its first stage, and ends without a solution only where there are none.
  pub run_Solves : (k : ℕ) (r : Stage) → HasEnded (run k r) → Solves d s r ↔ SolvesEnding d s (run k r)
  run_Solves zero r e = absurd e
  run_Solves (suc k) r e = after_Solves k r (run_Solves k) (step r) e (step_Solves r.equations r.problems r.bindings)
