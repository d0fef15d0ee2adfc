-- A substitution that solves the state after a step, under a list of conditions, solves the state before it, and makes the step's goal true.
use Rattle.std.proofs.Common.{subst, ◌≡◌, true, List, [], ◌∷◌, sym, ap, inl, inr, true≢false}
use Rattle.std.specs.Prelude.{Some}
use Rattle.ap_defs.specs.Freshness.{Conds, add_conds, reduce, var_eq}
use Rattle.ap_defs.specs.Resolution.{State, fresh_for_each}
use Rattle.ap_defs.specs.Substitution.{Binding, under}
use Rattle.ap_defs.specs.Terms.{NominalTerm, abs, app, name, pair, susp, unit}
use Rattle.ap_defs.specs.Unification.{Unified, has_var, reduce_all, unify}
use Rattle.ap_defs.specs.declared.terms.Cond.{Cond}
use Rattle.ap_defs.specs.declared.terms.Name.{Name}
use Rattle.ap_defs.specs.declared.terms.Var.{Var}
use Rattle.ap_theory.specs.Contexts.{Equal, Fresh, listed_context}
use Rattle.ap_theory.specs.Substitutions.{Agrees, EquatesAll, IsInstance, Meets, MeetsSome, Substitution, applied}
use Rattle.ap_theory.proofs.BooleanLemmas.{or_cases}
use Rattle.ap_theory.proofs.EqualityLemmas.{Fresh_both}
use Rattle.ap_theory.proofs.MostGeneralLemmas.{Meets_add_all, under_Agrees, unify_Solves}
use Rattle.ap_theory.proofs.ReductionLemmas.{Fresh_reduce, MeetsSome_both}
use Rattle.ap_theory.proofs.TermLemmas.{act_term_none, var_same}

-- the substitution agrees with the state's bindings and meets its conditions, under these conditions
pub record SolvesOpen (ds : Conds) (t : Substitution) (s : State) : Type 0 where
  pub agreeing : Agrees (listed_context ds) t s.bindings
  pub meeting : Meets (listed_context ds) t s.conditions

module _ (ds : Conds) (t : Substitution) where
  pub open_unify_back : (s : State) (ts us : List NominalTerm) (r : Unified) → unify s.bindings s.conditions ts us ≡ Some r
      → Agrees (listed_context ds) t r.bindings → Meets (listed_context ds) t r.conditions → SolvesOpen ds t s × EquatesAll (listed_context ds) t ts us
  open_unify_back s ts us r e b c =
      let all = (unify_Solves (listed_context ds) t s.bindings s.conditions ts us).1 (subst (IsInstance (listed_context ds) t) (sym e) (b, c)) in
      (record { agreeing = all.1; meeting = all.0 }, all.2)

  -- the state after conditions were added
  pub open_add_back : (s : State) (cs : List Cond) → SolvesOpen ds t (record s { conditions = add_conds cs s.conditions }) → SolvesOpen ds t s × Meets (listed_context ds) t cs
  open_add_back s cs h =
      let all = (Meets_add_all (listed_context ds) t cs s.conditions).0 h.meeting in
      (record { agreeing = h.agreeing; meeting = all.1 }, all.0)

  -- freshness under bindings with which the substitution agrees
  pub open_reduce_back : (bs : List Binding) (a : Name) (u : NominalTerm) → Agrees (listed_context ds) t bs → MeetsSome (listed_context ds) t (reduce a (under bs u)) → Fresh (listed_context ds) a (applied t u)
  open_reduce_back bs a u h k =
      (Fresh_both (listed_context ds) a (applied t u) (applied t (under bs u)) (under_Agrees (listed_context ds) t bs h u)).1 ((Fresh_reduce (listed_context ds) t a (under bs u)).1 k)

  pub open_reduce_all_back : (bs : List Binding) (a : Name) → Agrees (listed_context ds) t bs → (xs : List Var) → MeetsSome (listed_context ds) t (reduce_all bs (fresh_for_each a xs))
      → (x : Var) → has_var x xs ≡ true → Fresh (listed_context ds) a (t x)
  open_reduce_all_back bs a h [] k x m = absurd (true≢false (sym m))
  open_reduce_all_back bs a h (y ∷ ys) k x m =
      let parts = (MeetsSome_both (listed_context ds) t (reduce a (under bs (susp [] y))) (reduce_all bs (fresh_for_each a ys))).0 k in
      elim (or_cases (var_eq x y) (has_var x ys) m) [
        | inl e ↦
            subst (λ (z : Var). Fresh (listed_context ds) a (t z)) (sym (var_same x y e))
            (subst (Fresh (listed_context ds) a) (act_term_none (t y)) (open_reduce_back bs a (susp [] y) h parts.0))
        | inr i ↦ open_reduce_all_back bs a h ys parts.1 x i
      ]

  -- what is equal to a name is that name
  equal_name : (u : NominalTerm) (a : Name) → Equal (listed_context ds) u (name a) → u ≡ name a
  equal_name (name b) a h = ap name h
  equal_name unit a h = absurd h
  equal_name (pair u v) a h = absurd h
  equal_name (app f u) a h = absurd h
  equal_name (abs b u) a h = absurd h
  equal_name (susp p x) a h = absurd h

  pub open_under_name : (bs : List Binding) (u : NominalTerm) (a : Name) → Agrees (listed_context ds) t bs → under bs u ≡ name a → applied t u ≡ name a
  open_under_name bs u a h e = equal_name (applied t u) a (subst (λ v. Equal (listed_context ds) (applied t u) (applied t v)) e (under_Agrees (listed_context ds) t bs h u))
