-- Variables that are followed to the closures to which they are bound.
use Rattle.std.proofs.Common.{◌≡◌, ◌<◌, ◌≤◌, ◌+◌, ◌||◌, ℕ, Bool, true, false, List, ◌++◌, map, refl, sym, ap, ◌∙◌, subst, arith}
use Rattle.std.specs.Prelude.{Some, None, is_some}
use Rattle.ap_defs.specs.Freshness.{var_eq}
use Rattle.ap_defs.specs.Renaming.{AreSwapsBelow, IsBelow, rename_swap, rename_term, rename_var}
use Rattle.ap_defs.specs.Substitution.{moved, occurs, under}
use Rattle.ap_defs.specs.Terms.{NominalTerm, pair, act_term, susp, term_of}
use Rattle.ap_defs.specs.declared.terms.Swap.{Swap}
use Rattle.ap_defs.specs.declared.terms.Term.{Term}
use Rattle.ap_defs.specs.declared.terms.Term.TheVariants as code
use Rattle.ap_defs.specs.declared.terms.Var.{Var}
use Rattle.ap_perm.specs.Closures.{closure_term, lent_term}
use Rattle.ap_perm.specs.Lookups.{depth_of}
use Rattle.ap_perm.specs.declared.closures.Closure.{Closure}
use Rattle.ap_perm.specs.declared.closures.Lent.{Lent}
use Rattle.ap_perm.proofs.LookupLemmas.{depth_act, depth_ranked}
use Rattle.ap_perm.proofs.VisitLemmas.{visits, visits_bound, visits_left, visits_pair, visits_right}
use Rattle.ap_theory.proofs.IdempotenceLemmas.{bound_term_unbound}
use Rattle.ap_theory.proofs.SubstitutionLemmas.{under_act}
use Rattle.ap_theory.proofs.TermLemmas.{act_term-append, occurs_act}
use Rattle.ap_theory.specs.Variables.{IsUnbound}
use Rattle.ap_store.specs.Views.{bindings_of, meaning_in, present, rank, raw_bound}
use Rattle.ap_store.specs.declared.store.Store.{Store}
use Rattle.ap_store.proofs.BelowLemmas.{act_below}
use Rattle.ap_store.proofs.StoreLemmas.{store_ranked, store_sound}

-- where the first does not hold, the second decides
pub or_right : (a b : Bool) → a ≡ false → b ≡ (a || b)
or_right true b h = cc
or_right false b h = refl

-- how many nodes a walk through the bindings visits
abbrev pub visits_in : Store → NominalTerm → ℕ
visits_in s t = visits (raw_bound s) (rank s) t

module _ (s : Store) where
  pub left_less : (t u : NominalTerm) → visits_in s t < visits_in s (pair t u)
  left_less t u = visits_left (raw_bound s) (rank s) (store_ranked s) t u

  pub right_less : (t u : NominalTerm) → visits_in s u < visits_in s (pair t u)
  right_less t u = visits_right (raw_bound s) (rank s) (store_ranked s) t u

  pub both_less : (t u : NominalTerm) → visits_in s t + visits_in s u < visits_in s (pair t u)
  both_less t u = visits_pair (raw_bound s) (rank s) (store_ranked s) t u

  -- the closure's term without its swappings
  abbrev bare : Closure → NominalTerm
  bare c = rename_term c.base (term_of c.term.now)

  abbrev bare_lent : Lent → NominalTerm
  bare_lent c = rename_term c.base (term_of c.term.now)

  pub bound_less : (q : List Swap) (x : Var) (p : List Swap) (t : NominalTerm) → raw_bound s x ≡ Some (act_term p t) → visits_in s t < visits_in s (susp q x)
  bound_less q x p t e = visits_bound (raw_bound s) (rank s) (store_ranked s) q x p t e

  pub unbound_var : (x : Var) → raw_bound s x ≡ None → IsUnbound (bindings_of s) x
  unbound_var x e = (store_sound s).same x ∙ ap is_some e

  pub unbound_under : (q : List Swap) (x : Var) → raw_bound s x ≡ None → under (bindings_of s) (susp q x) ≡ susp q x
  unbound_under q x e = ap (moved q x) (bound_term_unbound (bindings_of s) x (unbound_var x e))

  -- a bound variable stands for what its closure stands for
  pub bound_under : (q : List Swap) (x : Var) (p : List Swap) (t : NominalTerm) → raw_bound s x ≡ Some (act_term p t)
      → under (bindings_of s) (susp q x) ≡ under (bindings_of s) (act_term (q ++ p) t)
  bound_under q x p t e =
      (store_sound s).follows q x (act_term p t) e ∙ sym (under_act (bindings_of s) q (act_term p t)) ∙ ap (under (bindings_of s)) (sym (act_term-append q p t))

  pub unbound_occurs : (y x : Var) (q : List Swap) → raw_bound s x ≡ None → occurs y (under (bindings_of s) (susp q x)) ≡ var_eq y x
  unbound_occurs y x q e = ap (occurs y) (unbound_under q x e)

  -- swappings do not change which variables occur
  pub bare_occurs : (y : Var) (p : List Swap) (t : NominalTerm) → occurs y (under (bindings_of s) (act_term p t)) ≡ occurs y (under (bindings_of s) t)
  bare_occurs y p t = ap (occurs y) (under_act (bindings_of s) p t) ∙ occurs_act y p (under (bindings_of s) t)

  pub bound_occurs : (y x : Var) (q p : List Swap) (t : NominalTerm) → raw_bound s x ≡ Some (act_term p t)
      → occurs y (under (bindings_of s) (susp q x)) ≡ occurs y (under (bindings_of s) t)
  bound_occurs y x q p t e = ap (occurs y) (bound_under q x p t e) ∙ bare_occurs y (q ++ p) t

  pub bound_below : (q : List Swap) (x : Var) (c : Lent) → raw_bound s x ≡ Some (lent_term c) → AreSwapsBelow (present s).next q → IsBelow (present s).next (act_term (q ++ c.swaps.now) (bare_lent c))
  bound_below q x c e h =
      subst (λ (t : NominalTerm). IsBelow (present s).next t) (sym (act_term-append q c.swaps.now (bare_lent c)))
      (act_below (present s).next q h (lent_term c) ((store_sound s).below x (lent_term c) e))

  pub bound_depth : (q : List Swap) (x : Var) (c : Lent) → raw_bound s x ≡ Some (lent_term c) → depth_of (rank s) (act_term (q ++ c.swaps.now) (bare_lent c)) < depth_of (rank s) (susp q x)
  bound_depth q x c e =
      let l : depth_of (rank s) (lent_term c) ≤ rank s x = depth_ranked (raw_bound s) (rank s) (store_ranked s) x (lent_term c) e in
      let k : depth_of (rank s) (act_term (q ++ c.swaps.now) (bare_lent c)) ≡ depth_of (rank s) (bare_lent c) = depth_act (rank s) (q ++ c.swaps.now) (bare_lent c) in
      let m : depth_of (rank s) (lent_term c) ≡ depth_of (rank s) (bare_lent c) = depth_act (rank s) c.swaps.now (bare_lent c) in
      omega (arith, l, k, m)

  -- what a variable at the head of a closure is followed to
  pub step_found : (c : Closure) (d : Lent) (all : List Swap) (q : List Swap) (x : Var) → c.term.now ≡ code.Susp q x → all ≡ (c.swaps.items ++ map (rename_swap c.base) q) ++ d.swaps.now
      → raw_bound s (rename_var c.base x) ≡ Some (lent_term d)
      → (under (bindings_of s) (act_term all (bare_lent d)) ≡ meaning_in s c)
      × (IsBelow (present s).next (closure_term c) → IsBelow (present s).next (act_term all (bare_lent d))) × (depth_of (rank s) (act_term all (bare_lent d)) < depth_of (rank s) (closure_term c))
  step_found c d all q x f g e =
      let p = c.swaps.items ++ map (rename_swap c.base) q in
      let y = rename_var c.base x in
      let h : closure_term c ≡ susp p y = ap (λ (t : Term). act_term c.swaps.items (rename_term c.base (term_of t))) f in
      let k : act_term all (bare_lent d) ≡ act_term (p ++ d.swaps.now) (bare_lent d) = ap (λ r. act_term r (bare_lent d)) g in (
        ap (under (bindings_of s)) k ∙ sym (bound_under p y d.swaps.now (bare_lent d) e) ∙ ap (under (bindings_of s)) (sym h),
        (λ l. let m : IsBelow (present s).next (susp p y) = subst (λ (t : NominalTerm). IsBelow (present s).next t) h l in
            subst (λ (t : NominalTerm). IsBelow (present s).next t) (sym k) (bound_below p y d e m.0)),
        subst (λ (t : NominalTerm). depth_of (rank s) t < depth_of (rank s) (closure_term c)) (sym k)
            (subst (λ (t : NominalTerm). depth_of (rank s) (act_term (p ++ d.swaps.now) (bare_lent d)) < depth_of (rank s) t) (sym h) (bound_depth p y d e)),
      )

  -- a closure in its place
  pub step_taken : (c : Closure) (d : Lent) (f : Closure) (q : List Swap) (x : Var) → c.term.now ≡ code.Susp q x
      → closure_term f ≡ act_term ((c.swaps.items ++ map (rename_swap c.base) q) ++ d.swaps.now) (bare_lent d) → raw_bound s (rename_var c.base x) ≡ Some (lent_term d)
      → (meaning_in s f ≡ meaning_in s c) × (IsBelow (present s).next (closure_term c) → IsBelow (present s).next (closure_term f)) × (depth_of (rank s) (closure_term f) < depth_of (rank s) (closure_term c))
  step_taken c d f q x e k h =
      let all = (c.swaps.items ++ map (rename_swap c.base) q) ++ d.swaps.now in
      subst (λ (t : NominalTerm). (under (bindings_of s) t ≡ meaning_in s c) × (IsBelow (present s).next (closure_term c) → IsBelow (present s).next t) × (depth_of (rank s) t < depth_of (rank s) (closure_term c)))
      (sym k) (step_found c d all q x e refl h)

  -- a term below bindings, but for swappings
  pub bound_look : (q : List Swap) (x : Var) (p : List Swap) (t : NominalTerm) → raw_bound s x ≡ Some (act_term p t)
      → (under (bindings_of s) (susp q x) ≡ act_term (q ++ p) (under (bindings_of s) t)) × (depth_of (rank s) t < depth_of (rank s) (susp q x))
  bound_look q x p t e =
      let l : depth_of (rank s) (act_term p t) ≤ rank s x = depth_ranked (raw_bound s) (rank s) (store_ranked s) x (act_term p t) e in
      let m : depth_of (rank s) (act_term p t) ≡ depth_of (rank s) t = depth_act (rank s) p t in
      (bound_under q x p t e ∙ under_act (bindings_of s) (q ++ p) t, omega (arith, l, m))
