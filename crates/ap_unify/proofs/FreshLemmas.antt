-- Conditions that are added to a store.
use Rattle.std.proofs.Common.{subst, ◌≡◌, ◌<◌, ℕ, true, false, List, [], ◌∷◌, map, refl, sym, ap, ◌∙◌}
use Rattle.std.proofs.lemmas.List.{append-nil}
use Rattle.std.specs.Prelude.{if◌then◌else◌, Option, Some, None}
use Rattle.ap_defs.specs.Freshness.{Conds, add_cond, add_conds, both, cond_before, cond_eq, reduce}
use Rattle.ap_defs.specs.Renaming.{IsBelow}
use Rattle.ap_defs.specs.Resolution.{fresh_for_each}
use Rattle.ap_defs.specs.Substitution.{Binding, Problem, under, ◌#◌}
use Rattle.ap_defs.specs.Terms.{NominalTerm}
use Rattle.ap_defs.specs.Unification.{reduce_all}
use Rattle.ap_defs.specs.declared.terms.Cond.{Cond}
use Rattle.ap_defs.specs.declared.terms.Name.{Name}
use Rattle.ap_defs.specs.declared.terms.Var.{Var}
use Rattle.ap_search.proofs.NumberLemmas.{AreProblemsBelow, AreSomeBelow, reduce_all_below}
use Rattle.ap_store.specs.Triples.{AreOnUnbound, Triple, with_conditions}
use Rattle.ap_theory.proofs.IdempotenceLemmas.{EachSome, each_reduce_all, under_each, under_unbound}
use Rattle.ap_theory.proofs.VariableLemmas.{EachProblem}
use Rattle.ap_theory.specs.StatementsOnConditions.{collected}
use Rattle.ap_theory.specs.Variables.{EachVar, IsIdempotent, IsUnbound}
use Rattle.ap_unify.proofs.FinishLemmas.{kept_collected}
use Rattle.ap_rules.proofs.RunLemmas.{reduce_all_under}
use Rattle.ap_unify.proofs.SolutionLemmas.{IsWell, on_unbound}
use Rattle.ap_rules.specs.Runs.{problem_under}
use Rattle.ap_unify.specs.Unified.{AreVarsBelow, IsReduced}

on_add : (a : Triple) (c : Cond) (ds : Conds) → AreOnUnbound a (c ∷ []) → AreOnUnbound a ds → AreOnUnbound a (add_cond c ds)
on_add a c [] h k = h
on_add a c (d ∷ ds) h k =
    elim (cond_eq c d) as (λ v. AreOnUnbound a (if v then (d ∷ ds) else (if cond_before c d then (c ∷ d ∷ ds) else (d ∷ add_cond c ds)))) [
      | true ↦ k
      | false ↦ elim (cond_before c d) as (λ v. AreOnUnbound a (if v then (c ∷ d ∷ ds) else (d ∷ add_cond c ds))) [ true ↦ (h.0, k) | false ↦ (k.0, on_add a c ds h k.1) ]
    ]

on_add_all : (a : Triple) (cs : List Cond) → AreOnUnbound a cs → AreOnUnbound a (add_conds cs [])
on_add_all a [] h = tt
on_add_all a (c ∷ cs) h = on_add a c (add_conds cs []) (h.0, tt) (on_add_all a cs h.1)

each_under : (bs : List Binding) → IsIdempotent bs → (ps : List Problem) → EachProblem (IsUnbound bs) (map (problem_under bs) ps)
each_under bs h [] = tt
each_under bs h ((a # t) ∷ ps) = (under_each bs h t, each_under bs h ps)

set_on_unbound : (a : Triple) (o : Option (List Cond)) (cs : Conds) → AreSomeBelow a.next o → EachSome (IsUnbound a.bindings) o → collected o ≡ Some cs → AreOnUnbound a cs
set_on_unbound a None cs h k e = cc
set_on_unbound a (Some ds) cs h k e = subst (AreOnUnbound a) (some_same e) (on_add_all a ds (on_unbound a ds h k))
  where
    some_same : {v w : Conds} → Some v ≡ Some w → v ≡ w
    some_same l = cc

-- what problems reduce to may be added
pub reduced_on_unbound : (a : Triple) → IsWell a → (ps : List Problem) → AreProblemsBelow a.next ps → (cs : Conds) → collected (reduce_all a.bindings ps) ≡ Some cs → AreOnUnbound a cs
reduced_on_unbound a w ps h cs e =
    set_on_unbound a (reduce_all a.bindings ps) cs
    (reduce_all_below a.next a.bindings w.bindings ps h)
    (subst (EachSome (IsUnbound a.bindings)) (reduce_all_under a.bindings w.idempotent ps)
    (each_reduce_all (IsUnbound a.bindings) a.bindings (map (problem_under a.bindings) ps)
    (λ t k. subst (EachVar (IsUnbound a.bindings)) (sym (under_unbound a.bindings t k)) k)
    (each_under a.bindings w.idempotent ps)))
    e

both_empty : (o : Option (List Cond)) → both o (Some []) ≡ o
both_empty None = refl
both_empty (Some cs) = ap Some (append-nil cs)

pub one_on_unbound : (a : Triple) → IsWell a → (n : Name) (t : NominalTerm) → n.num < a.next → IsBelow a.next t → (cs : Conds) → collected (reduce n (under a.bindings t)) ≡ Some cs → AreOnUnbound a cs
one_on_unbound a w n t l h cs e =
    reduced_on_unbound a w ((n # t) ∷ []) ((l, h), tt) cs (ap collected (both_empty (reduce n (under a.bindings t))) ∙ e)

pub each_below : (n : ℕ) (a : Name) (xs : List Var) → a.num < n → AreVarsBelow n xs → AreProblemsBelow n (fresh_for_each a xs)
each_below n a [] l h = tt
each_below n a (x ∷ xs) l h = ((l, (tt, h.0)), each_below n a xs l h.1)

-- and then the store has them
pub is_reduced : (a b : Triple) → IsWell a → (o : Option (List Cond)) (more : Conds) → collected o ≡ Some more → b ≡ with_conditions more a → IsReduced o a true b
is_reduced a b w None more e h = cc
is_reduced a b w (Some cs) more e h =
    (refl, h ∙ ap (λ ds. let c : Triple = record { bindings = a.bindings; conditions = ds; next = a.next } in c) (some_same (sym (kept_collected a.conditions w.set more (Some cs) e))))
  where
    some_same : {v w : Conds} → Some v ≡ Some w → v ≡ w
    some_same l = cc
