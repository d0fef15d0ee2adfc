-- What solves the state after a step solves the state before it, and makes the step's goal true.
use Rattle.std.proofs.Common.{◌≡◌, Bool, true, false, ◌&&◌, List, [], ◌∷◌, ◌++◌, refl, sym, ap, ◌∙◌, inl, inr, true≢false}
use Rattle.std.specs.Prelude.{Option, Some, None}
use Rattle.ap_defs.specs.Alpha.{alpha}
use Rattle.ap_defs.specs.Alpha as ground
use Rattle.ap_defs.specs.Freshness.{add_conds, both as both_lists, reduce, var_eq}
use Rattle.ap_defs.specs.Groundings.{Grounding, agrees, equates_all, grounded, is_instance, meets}
use Rattle.ap_defs.specs.Resolution.{State, fresh_for_each}
use Rattle.ap_defs.specs.Substitution.{Binding, under}
use Rattle.ap_defs.specs.Terms.{NominalTerm, name, susp}
use Rattle.ap_defs.specs.Unification.{Unified, has_var, reduce_all, unify}
use Rattle.ap_defs.specs.declared.terms.Cond.{Cond}
use Rattle.ap_defs.specs.declared.terms.Name.{Name}
use Rattle.ap_defs.specs.declared.terms.Var.{Var}
use Rattle.ap_theory.specs.StatementsOnGroundings.{meets_some}
use Rattle.ap_theory.proofs.BooleanLemmas.{and_both, and_left, and_right, or_cases}
use Rattle.ap_theory.proofs.GroundLemmas.{act_ground_none, fresh_alpha}
use Rattle.ap_theory.proofs.GroundingLemmas.{fresh_reduce, meets_add_all, under_alpha, unify_instances}
use Rattle.ap_theory.proofs.TermLemmas.{var_same}
use Rattle.ap_ground.proofs.AlphaLemmas.{alpha_name}
use Rattle.ap_soundness.specs.FoundStates.{Solves}

module _ (g : Grounding) where
  pub unify_back : (s : State) (ts us : List NominalTerm) (r : Unified) → unify s.bindings s.conditions ts us ≡ Some r
      → agrees g r.bindings ≡ true → meets g r.conditions ≡ true → Solves g s × (equates_all g ts us ≡ true)
  unify_back s ts us r e b c =
      let m = meets g s.conditions in
      let a = agrees g s.bindings in
      let q = equates_all g ts us in
      let all : (m && (a && q)) ≡ true =
      unify_instances g s.bindings s.conditions ts us ∙ ap (is_instance g) e ∙ and_both (agrees g r.bindings) (meets g r.conditions) b c in
      let rest = and_right m (a && q) all in
      (record { agreeing = and_left a q rest; meeting = and_left m (a && q) all }, and_right a q rest)

  -- the state after conditions were added
  pub add_back : (s : State) (cs : List Cond) → Solves g (record s { conditions = add_conds cs s.conditions }) → Solves g s × (meets g cs ≡ true)
  add_back s cs h =
      let all : (meets g cs && meets g s.conditions) ≡ true = sym (meets_add_all g cs s.conditions) ∙ h.meeting in
      (record { agreeing = h.agreeing; meeting = and_right (meets g cs) (meets g s.conditions) all }, and_left (meets g cs) (meets g s.conditions) all)

  -- freshness under bindings with which the grounding agrees
  pub reduce_back : (bs : List Binding) (a : Name) (t : NominalTerm) → agrees g bs ≡ true → meets_some g (reduce a (under bs t)) ≡ true → ground.fresh a (grounded g t) ≡ true
  reduce_back bs a t h k = fresh_alpha a (grounded g t) (grounded g (under bs t)) (under_alpha g bs h t) ∙ fresh_reduce g a (under bs t) ∙ k

  meets-append : (cs ds : List Cond) → meets g (cs ++ ds) ≡ (meets g cs && meets g ds)
  meets-append [] ds = refl
  meets-append (c ∷ cs) ds = ap (λ v. ground.fresh c.name (g c.var) && v) (meets-append cs ds) ∙ and_joined (ground.fresh c.name (g c.var)) (meets g cs) (meets g ds)
    where
      and_joined : (x y z : Bool) → (x && (y && z)) ≡ ((x && y) && z)
      and_joined true y z = refl
      and_joined false y z = refl

  meets_both : (o p : Option (List Cond)) → meets_some g (both_lists o p) ≡ true → (meets_some g o ≡ true) × (meets_some g p ≡ true)
  meets_both None p h = absurd (true≢false (sym h))
  meets_both (Some cs) None h = absurd (true≢false (sym h))
  meets_both (Some cs) (Some ds) h =
      let all : (meets g cs && meets g ds) ≡ true = sym (meets-append cs ds) ∙ h in
      (and_left (meets g cs) (meets g ds) all, and_right (meets g cs) (meets g ds) all)

  pub reduce_all_back : (bs : List Binding) (a : Name) → agrees g bs ≡ true → (xs : List Var) → meets_some g (reduce_all bs (fresh_for_each a xs)) ≡ true
      → (x : Var) → has_var x xs ≡ true → ground.fresh a (g x) ≡ true
  reduce_all_back bs a h [] k x m = absurd (true≢false (sym m))
  reduce_all_back bs a h (y ∷ ys) k x m =
      let parts = meets_both (reduce a (under bs (susp [] y))) (reduce_all bs (fresh_for_each a ys)) k in
      elim (or_cases (var_eq x y) (has_var x ys) m) [
        | inl e ↦ ap (λ z. ground.fresh a (g z)) (var_same x y e) ∙ ap (ground.fresh a) (sym (act_ground_none (g y))) ∙ reduce_back bs a (susp [] y) h parts.0
        | inr i ↦ reduce_all_back bs a h ys parts.1 x i
      ]

  pub under_name : (bs : List Binding) (t : NominalTerm) (a : Name) → agrees g bs ≡ true → under bs t ≡ name a → grounded g t ≡ name a
  under_name bs t a h e = alpha_name (grounded g t) a (ap (λ u. alpha (grounded g t) (grounded g u)) (sym e) ∙ under_alpha g bs h t)
