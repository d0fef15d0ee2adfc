-- Equations that wait behind others do not change how these are rewritten.
use Rattle.std.proofs.Common.{◌≡◌, ◌≢◌, ℕ, zero, suc, ◌+◌, false, ◌||◌, List, [], ◌∷◌, ◌++◌, append_assoc, inl, inr, map, refl, sym, subst, ap, ap₂, ◌∙◌}
use Rattle.std.specs.Prelude.{None}
use Rattle.std.proofs.lemmas.List.{map-append}
use Rattle.ap_defs.specs.Freshness.{Conds, var_eq}
use Rattle.ap_defs.specs.Substitution.{Binding, Equation, Problem, occurs, put_binding, put_equation, put_problem, ◌:=◌, ◌≐◌}
use Rattle.ap_defs.specs.Terms.{NominalTerm}
use Rattle.ap_defs.specs.Unification.{Progress, Rule, Stage, apply_rule, bind, clash, done, ending, failed, finish, next, replace, rule, size, step_of}
use Rattle.ap_defs.specs.declared.terms.Var.{Var}
use Rattle.ap_theory.proofs.IdempotenceLemmas.{under_each}
use Rattle.ap_theory.proofs.TermLemmas.{var_eq_flip}
use Rattle.ap_theory.proofs.TerminationLemmas.{Shrinks, rule_shrinks}
use Rattle.ap_theory.proofs.VariableLemmas.{EachEquation, each_equation-append, each_equation_put, not_var, occurs_apart}
use Rattle.ap_theory.specs.Variables.{EachVar, IsIdempotent, IsUnbound, is_bound}
use Rattle.ap_unify.proofs.ReachLemmas.{leads_ending, leads_failed}
use Rattle.ap_rules.proofs.RunLemmas.{bound_in, equations_put}
use Rattle.ap_unify.specs.Needless.{GoesTo, LeavesOut}
use Rattle.ap_unify.specs.Parts.{ReducesAlike, IsReached, LeadsTo}
use Rattle.ap_rules.specs.Runs.{equation_under, stage_under}

module _ (x : Var) (v : NominalTerm) where
  bound_put : (y : Var) (bs : List Binding) → is_bound y (map (put_binding x v) bs) ≡ is_bound y bs
  bound_put y [] = refl
  bound_put y ((z := t) ∷ bs) = ap (λ b. var_eq y z || b) (bound_put y bs)

  unbound_after : (bs : List Binding) (y : Var) → IsUnbound bs y → x ≢ y → IsUnbound (bound_in x v bs) y
  unbound_after bs y h n = ap₂ ◌||◌ (var_eq_flip y x ∙ not_var x y n) (bound_put y bs ∙ h)

  new_unbound : (bs : List Binding) → EachVar (IsUnbound bs) v → occurs x v ≡ false → EachVar (IsUnbound (bound_in x v bs)) v
  new_unbound bs h e y o = unbound_after bs y (h y o) (occurs_apart x y v e o)

-- no variable of the equations is bound
abbrev IsFine : Stage → Type 0
IsFine s = EachEquation (IsUnbound s.bindings) s.equations

abbrev IsFineAfter : Progress → Type 0
IsFineAfter done = Unit {0}
IsFineAfter failed = Unit {0}
IsFineAfter (next s) = IsFine s

abbrev IsNotDone : Progress → Type 0
IsNotDone done = ⊥
IsNotDone failed = Unit {0}
IsNotDone (next s) = Unit {0}

fine_by_rule : (m : ℕ) (r : Rule) (es : List Equation) (ps : List Problem) (bs : List Binding) → Shrinks (IsUnbound bs) m r → EachEquation (IsUnbound bs) es → IsFineAfter (apply_rule r es ps bs)
fine_by_rule m (replace new qs) es ps bs s h = each_equation-append (IsUnbound bs) new es s.1 h
fine_by_rule m (bind x v) es ps bs s h = each_equation_put (IsUnbound bs) (IsUnbound (bound_in x v bs)) x v (unbound_after x v bs) (new_unbound x v bs s.1 s.2) es h
fine_by_rule m clash es ps bs s h = tt

fine_after : (es : List Equation) (ps : List Problem) (bs : List Binding) → EachEquation (IsUnbound bs) es → IsFineAfter (step_of es ps bs)
fine_after [] ps bs h = tt
fine_after ((t ≐ u) ∷ es) ps bs h = fine_by_rule (size t + size u) (rule t u) es ps bs (rule_shrinks (IsUnbound bs) t u h.0.0 h.0.1) h.1

left_out_fine : (es : List Equation) (ps : List Problem) (bs : List Binding) (p : Progress) → EachEquation (IsUnbound bs) es → LeavesOut es ps bs p → IsFineAfter p
left_out_fine [] ps bs p h k = absurd k
left_out_fine ((t ≐ u) ∷ es) ps bs p h k = subst IsFineAfter (sym k.0) h.1

goes_fine : (s r : Stage) → IsFine s → GoesTo s (next r) → IsFine r
goes_fine s r h (inl e) = subst IsFineAfter e (fine_after s.equations s.problems s.bindings h)
goes_fine s r h (inr k) = left_out_fine s.equations s.problems s.bindings (next r) h k

module _ (rest : List Equation) where
  -- the rest is put behind the equations
  abbrev behind : Stage → Stage
  behind s = record { equations = s.equations ++ map (equation_under s.bindings) rest; problems = s.problems; bindings = s.bindings }

  abbrev behind_after : Progress → Progress
  behind_after done = done
  behind_after failed = failed
  behind_after (next s) = next (behind s)

  behind_by_rule : (m : ℕ) (r : Rule) (es : List Equation) (ps : List Problem) (bs : List Binding) → Shrinks (IsUnbound bs) m r
      → apply_rule r (es ++ map (equation_under bs) rest) ps bs ≡ behind_after (apply_rule r es ps bs)
  behind_by_rule m (replace new qs) es ps bs s =
      ap (λ fs. next (record { equations = fs; problems = ps ++ qs; bindings = bs })) (sym (append_assoc new es (map (equation_under bs) rest)))
  behind_by_rule m (bind x v) es ps bs s =
      ap (λ fs. next (record { equations = fs; problems = map (put_problem x v) ps; bindings = bound_in x v bs }))
      (map-append (put_equation x v) es (map (equation_under bs) rest) ∙ ap (λ fs. map (put_equation x v) es ++ fs) (equations_put x v bs s.0 rest))
  behind_by_rule m clash es ps bs s = refl

  behind_step : (es : List Equation) (ps : List Problem) (bs : List Binding) (p : Progress) → EachEquation (IsUnbound bs) es → IsNotDone p → step_of es ps bs ≡ p
      → step_of (es ++ map (equation_under bs) rest) ps bs ≡ behind_after p
  behind_step [] ps bs p h d e = absurd (subst IsNotDone (sym e) d)
  behind_step ((t ≐ u) ∷ es) ps bs p h d e =
      behind_by_rule (size t + size u) (rule t u) es ps bs (rule_shrinks (IsUnbound bs) t u h.0.0 h.0.1) ∙ ap behind_after e

  left_out_behind : (es : List Equation) (ps : List Problem) (bs : List Binding) (p : Progress) → LeavesOut es ps bs p → LeavesOut (es ++ map (equation_under bs) rest) ps bs (behind_after p)
  left_out_behind [] ps bs p h = absurd h
  left_out_behind ((t ≐ u) ∷ es) ps bs p h = (ap behind_after h.0, h.1)

  goes_behind : (s : Stage) (p : Progress) → IsFine s → IsNotDone p → GoesTo s p → GoesTo (behind s) (behind_after p)
  goes_behind s p h d (inl e) = inl (behind_step s.equations s.problems s.bindings p h d e)
  goes_behind s p h d (inr k) = inr (left_out_behind s.equations s.problems s.bindings p k)

  reached_behind : (n : ℕ) (s : Stage) (p : Progress) → IsFine s → IsNotDone p → IsReached n s p → IsReached n (behind s) (behind_after p)
  reached_behind zero s p h d e = goes_behind s p h d e
  reached_behind (suc n) s p h d (m, e, k) = (behind m, goes_behind s (next m) h tt e, reached_behind n m p (goes_fine s m h e) d k)

  behind_alike : (q p : Progress) → ReducesAlike q p → ReducesAlike (behind_after q) (behind_after p)
  behind_alike q done h = ap behind_after h
  behind_alike q failed h = ap behind_after h
  behind_alike q (next s) (ps, e, h) = (ps, ap behind_after e, h)

  alike_not_done : (q p : Progress) → ReducesAlike q p → IsNotDone p → IsNotDone q
  alike_not_done q done h d = absurd d
  alike_not_done q failed h d = subst IsNotDone (sym h) tt
  alike_not_done q (next s) (ps, e, h) d = subst IsNotDone (sym e) tt

  leads_behind : (s : Stage) (p : Progress) → IsFine s → IsNotDone p → LeadsTo s p → LeadsTo (behind s) (behind_after p)
  leads_behind s p h d (n, q, k, a) = (n, behind_after q, reached_behind n s q h (alike_not_done q p a d) k, behind_alike q p a)

  -- An equation in front of the rest is rewritten until the rest alone is left, or until there is no solution.
  module _ (s : List Binding) (idempotent : IsIdempotent s) (t u : NominalTerm) (ps : List Problem) where
    pub front_ending : (r : List Binding) (qs : List Problem) → LeadsTo (stage_under s ((t ≐ u) ∷ []) ps) (next (stage_under r [] qs))
        → (ds : Conds) → finish ds (ending (stage_under s ((t ≐ u) ∷ rest) ps)) ≡ finish ds (ending (stage_under r rest qs))
    front_ending r qs h ds =
        leads_ending ds (stage_under s ((t ≐ u) ∷ rest) ps) (stage_under r rest qs)
        (leads_behind (stage_under s ((t ≐ u) ∷ []) ps) (next (stage_under r [] qs)) ((under_each s idempotent t, under_each s idempotent u), tt) tt h)

    pub front_failed : LeadsTo (stage_under s ((t ≐ u) ∷ []) ps) failed → (ds : Conds) → finish ds (ending (stage_under s ((t ≐ u) ∷ rest) ps)) ≡ None
    front_failed h ds =
        leads_failed ds (stage_under s ((t ≐ u) ∷ rest) ps)
        (leads_behind (stage_under s ((t ≐ u) ∷ []) ps) failed ((under_each s idempotent t, under_each s idempotent u), tt) tt h)
