-- What solves a later stage of a run solves the earlier one, as far as equations were taken from it.
use Rattle.std.proofs.Common.{◌≡◌, ◌<◌, ◌≤◌, ◌+◌, ℕ, zero, suc, true, false, List, [], ◌∷◌, ◌++◌, inl, inr, length, map, refl, sym, subst, ap, ◌∙◌, arith, ◌↔◌}
use Rattle.std.proofs.lemmas.Bool.Decides.{nat_tests}
use Rattle.std.proofs.lemmas.List.{length-append, length-map}
use Rattle.std.specs.Prelude.{if◌then◌else◌, nat_lt}
use Rattle.ap_defs.specs.Freshness.{Conds}
use Rattle.ap_defs.specs.Substitution.{Binding, Equation, Problem, put, put_binding, put_equation, put_problem, ◌#◌, ◌:=◌, ◌≐◌}
use Rattle.ap_defs.specs.Terms.{NominalTerm}
use Rattle.ap_defs.specs.Unification.{Progress, Rule, Stage, apply_rule, bind, clash, done, failed, next, replace, rule, step_of}
use Rattle.ap_defs.specs.declared.terms.Var.{Var}
use Rattle.ap_theory.specs.Contexts.{Context, Equal, listed_context}
use Rattle.ap_theory.specs.Substitutions.{Agrees, Equates, Freshens, Substitution, applied}
use Rattle.ap_theory.proofs.EqualityLemmas.{Equal_itself, Fresh_both}
use Rattle.ap_theory.proofs.LogicLemmas.{iff_both, iff_itself}
use Rattle.ap_theory.proofs.SolvingLemmas.{Equal_both, Equates-append, Freshens-append, RuleHolds, put_Equal, rule_Holds}
use Rattle.ap_unify.proofs.AlikeLemmas.{alike_Freshens}
use Rattle.ap_unify.specs.Needless.{Awaits, Follows, GoesTo, LeavesOut, all_but_last}
use Rattle.ap_unify.specs.Parts.{IsReached, LeadsTo, with_problems}

lt_no : (m n : ℕ) → n ≤ m → nat_lt m n ≡ false
lt_no m n h = grind (arith, nat_tests)

lt_yes : (m n : ℕ) → m < n → nat_lt m n ≡ true
lt_yes m n h = grind (arith, nat_tests)

no_lt : (m n : ℕ) → nat_lt m n ≡ false → n ≤ m
no_lt m n h = grind (arith, nat_tests)

-- The equations in front.
front-append : (j : ℕ) (new es : List Equation) → j ≤ length es → all_but_last j (new ++ es) ≡ new ++ all_but_last j es
front-append j [] es h = refl
front-append j (e ∷ new) es h =
    let l : length (new ++ es) ≡ length new + length es = length-append new es in
    ap (λ b. if b then [] else (e ∷ all_but_last j (new ++ es))) (lt_no (length (new ++ es)) j (omega arith)) ∙ ap (λ fs. e ∷ fs) (front-append j new es h)

front-map : (j : ℕ) (f : Equation → Equation) (es : List Equation) → all_but_last j (map f es) ≡ map f (all_but_last j es)
front-map j f [] = refl
front-map j f (e ∷ es) =
    ap (λ n. if nat_lt n j then [] else (f e ∷ all_but_last j (map f es))) (length-map es f)
    ∙ elim (nat_lt (length es) j) as (λ b. (if b then [] else (f e ∷ all_but_last j (map f es))) ≡ map f (if b then [] else (e ∷ all_but_last j es))) [
      | true ↦ refl
      | false ↦ ap (λ fs. f e ∷ fs) (front-map j f es)
    ]

-- of as many equations none is in front
pub front_none : (es : List Equation) (j : ℕ) → length es ≤ j → all_but_last j es ≡ []
front_none [] j h = refl
front_none (e ∷ es) j h = ap (λ b. if b then [] else (e ∷ all_but_last j es)) (lt_yes (length es) j (omega arith))

-- an equation is in front of those behind it
pub front_first : (j : ℕ) (e : Equation) (es : List Equation) → j ≤ length es → all_but_last j (e ∷ es) ≡ e ∷ all_but_last j es
front_first j e es h = ap (λ b. if b then [] else (e ∷ all_but_last j es)) (lt_no (length es) j h)

module _ (d : Context) (s : Substitution) where
  put_Equates : (x : Var) (v : NominalTerm) → Equal d (s x) (applied s v) → (es : List Equation) → Equates d s es ↔ Equates d s (map (put_equation x v) es)
  put_Equates x v e [] = iff_itself
  put_Equates x v e ((t ≐ u) ∷ es) =
      iff_both (Equal_both d s (applied s t) (applied s (put x v t)) (applied s u) (applied s (put x v u)) (put_Equal d s x v e t) (put_Equal d s x v e u)) (put_Equates x v e es)

  put_Freshens : (x : Var) (v : NominalTerm) → Equal d (s x) (applied s v) → (ps : List Problem) → Freshens d s ps ↔ Freshens d s (map (put_problem x v) ps)
  put_Freshens x v e [] = iff_itself
  put_Freshens x v e ((a # t) ∷ ps) = iff_both (Fresh_both d a (applied s t) (applied s (put x v t)) (put_Equal d s x v e t)) (put_Freshens x v e ps)

  put_Agrees : (x : Var) (v : NominalTerm) → Equal d (s x) (applied s v) → (bs : List Binding) → Agrees d s bs ↔ Agrees d s (map (put_binding x v) bs)
  put_Agrees x v e [] = iff_itself
  put_Agrees x v e ((y := t) ∷ bs) =
      iff_both (Equal_both d s (s y) (s y) (applied s t) (applied s (put x v t)) (Equal_itself d (s y)) (put_Equal d s x v e t)) (put_Agrees x v e bs)

  -- what agrees with the bindings of the later stage and solves its problems does so of the earlier one, and what solves its equations in front too
  abbrev pub Sound : Stage → Stage → Type 0
  Sound a b = Agrees d s b.bindings → Freshens d s b.problems
      → Agrees d s a.bindings × Freshens d s a.problems × ((j : ℕ) → Equates d s (all_but_last j b.equations) → Equates d s (all_but_last j a.equations))

  abbrev SoundAfter : Stage → Progress → Type 0
  SoundAfter a (next b) = Sound a b
  SoundAfter a done = Unit {0}
  SoundAfter a failed = Unit {0}

  -- an equation before others
  with_first : (j : ℕ) (t u : NominalTerm) (es : List Equation) → (j ≤ length es → Equal d (applied s t) (applied s u) × Equates d s (all_but_last j es)) → Equates d s (all_but_last j ((t ≐ u) ∷ es))
  with_first j t u es h =
      elim (nat_lt (length es) j) as (λ b. nat_lt (length es) j ≡ b → Equates d s (if b then [] else ((t ≐ u) ∷ all_but_last j es))) [
        | true ↦ λ e. tt
        | false ↦ λ e. h (no_lt (length es) j e)
      ] refl

  sound_rule : (t u : NominalTerm) (r : Rule) (es : List Equation) (ps : List Problem) (bs : List Binding) → rule t u ≡ r
      → SoundAfter (record { equations = (t ≐ u) ∷ es; problems = ps; bindings = bs }) (apply_rule r es ps bs)
  sound_rule t u (replace new qs) es ps bs e = λ a f.
      let g = (Freshens-append d s ps qs).0 f in (
        a,
        g.0,
        (λ j h. with_first j t u es (λ l.
            let k = (Equates-append d s new (all_but_last j es)).0 (subst (Equates d s) (front-append j new es l) h) in
            ((rule_Holds d s t u).1 (subst (RuleHolds d s) (sym e) (k.0, g.1)), k.1))),
      )
  sound_rule t u (bind x v) es ps bs e = λ a f. (
    (put_Agrees x v a.0 bs).1 a.1,
    (put_Freshens x v a.0 ps).1 f,
    (λ j h. with_first j t u es (λ l. (
      (rule_Holds d s t u).1 (subst (RuleHolds d s) (sym e) a.0),
      (put_Equates x v a.0 (all_but_last j es)).1 (subst (Equates d s) (front-map j (put_equation x v) es) h),
    ))),
  )
  sound_rule t u clash es ps bs e = tt

  sound_step : (es : List Equation) (ps : List Problem) (bs : List Binding) → SoundAfter (record { equations = es; problems = ps; bindings = bs }) (step_of es ps bs)
  sound_step [] ps bs = tt
  sound_step ((t ≐ u) ∷ es) ps bs = sound_rule t u (rule t u) es ps bs refl

module _ (ds : Conds) (s : Substitution) where
  sound_without : (es : List Equation) (ps : List Problem) (bs : List Binding) (p : Progress) → LeavesOut es ps bs p → SoundAfter (listed_context ds) s (record { equations = es; problems = ps; bindings = bs }) p
  sound_without [] ps bs p h = absurd h
  sound_without ((t ≐ u) ∷ es) ps bs p h =
      subst (SoundAfter (listed_context ds) s (record { equations = (t ≐ u) ∷ es; problems = ps; bindings = bs })) (sym h.0)
      (λ a f. (a, f, (λ j g. with_first (listed_context ds) s j t u es (λ l. (h.1.0 ds s a f, g)))))

  goes_sound : (a b : Stage) → GoesTo a (next b) → Sound (listed_context ds) s a b
  goes_sound a b (inl e) = subst (SoundAfter (listed_context ds) s a) e (sound_step (listed_context ds) s a.equations a.problems a.bindings)
  goes_sound a b (inr h) = sound_without a.equations a.problems a.bindings (next b) h

  sound_on : (a b c : Stage) → Sound (listed_context ds) s a b → Sound (listed_context ds) s b c → Sound (listed_context ds) s a c
  sound_on a b c h k = λ g f.
      let l = k g f in
      let m = h l.0 l.1 in
      (m.0, m.1, (λ j e. m.2 j (l.2 j e)))

  reached_sound : (n : ℕ) (a b : Stage) → IsReached n a (next b) → Sound (listed_context ds) s a b
  reached_sound zero a b e = goes_sound a b e
  reached_sound (suc n) a b (m, e, h) = sound_on a m b (goes_sound a m e) (reached_sound n m b h)

  pub leads_sound : (a b : Stage) → LeadsTo a (next b) → Sound (listed_context ds) s a b
  leads_sound a b (n, q, h, (ps, e, k)) = λ g f.
      reached_sound n a (with_problems ps b) (subst (IsReached n a) e h) g (alike_Freshens (listed_context ds) s b.problems ps (sym k) f)

-- what was awaited is awaited on
pub awaits_on : (a b : Stage) → LeadsTo a (next b) → (j : ℕ) (t u : NominalTerm) → Awaits a j t u → Awaits b j t u
awaits_on a b h j t u k = λ ds s g f e.
    let l = leads_sound ds s a b h g f in
    k ds s l.0 l.1 (l.2 j e)

-- and follows once as few equations are left
pub awaited_follows : (a : Stage) (j : ℕ) (t u : NominalTerm) → length a.equations ≤ j → Awaits a j t u → Follows a.bindings a.problems t u
awaited_follows a j t u h k = λ ds s g f. k ds s g f (subst (Equates (listed_context ds) s) (sym (front_none a.equations j h)) tt)

pub follows_awaits : (a : Stage) (t u : NominalTerm) → Follows a.bindings a.problems t u → Awaits a (length a.equations) t u
follows_awaits a t u k = λ ds s g f e. k ds s g f

pub follows_on : (a b : Stage) → LeadsTo a (next b) → (t u : NominalTerm) → Follows a.bindings a.problems t u → Follows b.bindings b.problems t u
follows_on a b h t u k = λ ds s g f. let l = leads_sound ds s a b h g f in k ds s l.0 l.1
