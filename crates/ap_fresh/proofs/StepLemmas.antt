-- What a freshness problem reduces to, for each kind of term.
use Rattle.std.proofs.Common.{◌≡◌, ℕ, true, false, List, [], ◌∷◌, refl, sym, ap, ◌∙◌}
use Rattle.std.specs.Prelude.{Option, Some, None, Result, Ok, Err, OnOk, if◌then◌else◌}
use Rattle.ap_defs.specs.Freshness.{both, reduce}
use Rattle.ap_defs.specs.Permutations.{act_name, inverse, name_eq}
use Rattle.ap_defs.specs.Terms.{NominalTerm, abs, act_term, app, name, pair, susp, unit}
use Rattle.ap_defs.specs.declared.terms.Cond.{Cond}
use Rattle.ap_defs.specs.declared.terms.Name.{Name}
use Rattle.ap_defs.specs.declared.terms.Swap.{Swap}
use Rattle.ap_defs.specs.declared.terms.Var.{Var}
use Rattle.ap_perm.specs.Inner.{inner_part}
use Rattle.ap_perm.proofs.LookupLemmas.{carried_out_abs, carried_out_act, carried_out_app, carried_out_bound, carried_out_name, carried_out_pair, carried_out_unbound, carried_out_unit}
use Rattle.ap_perm.specs.Lookups.{Bound, IsRanked, carried_out}
use Rattle.ap_theory.proofs.ReductionLemmas.{reduce_act}
use Rattle.ap_theory.proofs.TermLemmas.{act_term_none}

-- what follows from a fact about a success
pub on_ok : {T E : Type 0} (r : Result T E) {A B : Type 0} → (A → B) → OnOk r A → OnOk r B
on_ok (Ok x) f h = f h
on_ok (Err e) f h = h

module _ (bound : Bound) (rank : Var → ℕ) (ranked : IsRanked bound rank) where
  abbrev pub problem : Name → NominalTerm → Option (List Cond)
  problem a t = reduce a (carried_out bound rank t)

  pub unit_problem : (a : Name) (u : NominalTerm) → u ≡ unit → problem a u ≡ Some []
  unit_problem a u e = ap (problem a) e ∙ ap (reduce a) (carried_out_unit bound rank ranked)

  pub name_refuted : (a b : Name) (u : NominalTerm) → u ≡ name b → name_eq a b ≡ true → problem a u ≡ None
  name_refuted a b u e h = ap (problem a) e ∙ ap (reduce a) (carried_out_name bound rank ranked b) ∙ rw h refl

  pub name_problem : (a b : Name) (u : NominalTerm) → u ≡ name b → name_eq a b ≡ false → problem a u ≡ Some []
  name_problem a b u e h = ap (problem a) e ∙ ap (reduce a) (carried_out_name bound rank ranked b) ∙ rw h refl

  pub pair_problem : (a : Name) (t v u : NominalTerm) → u ≡ pair t v → problem a u ≡ both (problem a t) (problem a v)
  pair_problem a t v u e = ap (problem a) e ∙ ap (reduce a) (carried_out_pair bound rank ranked t v)

  pub app_problem : (a : Name) (f : ℕ) (t u : NominalTerm) → u ≡ app f t → problem a u ≡ problem a t
  app_problem a f t u e = ap (problem a) e ∙ ap (reduce a) (carried_out_app bound rank ranked f t)

  pub binder_problem : (a b : Name) (t u : NominalTerm) → u ≡ abs b t → name_eq a b ≡ true → problem a u ≡ Some []
  binder_problem a b t u e h = ap (problem a) e ∙ ap (reduce a) (carried_out_abs bound rank ranked b t) ∙ rw h refl

  pub abs_problem : (a b : Name) (t u : NominalTerm) → u ≡ abs b t → name_eq a b ≡ false → problem a u ≡ problem a t
  abs_problem a b t u e h = ap (problem a) e ∙ ap (reduce a) (carried_out_abs bound rank ranked b t) ∙ rw h refl

  pub unbound_problem : (a : Name) (q : List Swap) (x : Var) (u : NominalTerm) → u ≡ susp q x → bound x ≡ None
      → problem a u ≡ Some (record { name = act_name (inverse q) a; var = x } ∷ [])
  unbound_problem a q x u e h = ap (problem a) e ∙ ap (reduce a) (carried_out_unbound bound rank ranked q x h)

  pub bound_problem : (a : Name) (q : List Swap) (x : Var) (p : List Swap) (t u : NominalTerm) → u ≡ susp q x → bound x ≡ Some (act_term p t)
      → problem a u ≡ problem (act_name (inverse p) (act_name (inverse q) a)) t
  bound_problem a q x p t u e h =
      ap (problem a) e ∙ ap (reduce a) (carried_out_bound bound rank ranked q x (act_term p t) h) ∙ reduce_act q a (carried_out bound rank (act_term p t))
      ∙ ap (reduce (act_name (inverse q) a)) (carried_out_act bound rank p t) ∙ reduce_act p (act_name (inverse q) a) (carried_out bound rank t)

  pub moved_problem : (a : Name) (p : List Swap) (t : NominalTerm) → problem a (act_term p t) ≡ problem (act_name (inverse p) a) t
  moved_problem a p t = ap (reduce a) (carried_out_act bound rank p t) ∙ reduce_act p a (carried_out bound rank t)

  pub var_problem : (a : Name) (x : Var) (t : NominalTerm) → bound x ≡ Some t → problem a (susp [] x) ≡ problem a t
  var_problem a x t h = ap (reduce a) (carried_out_bound bound rank ranked [] x t h ∙ act_term_none (carried_out bound rank t))

  -- the problem of the part below symbols and other binders
  pub inner_problem : (a : Name) (t : NominalTerm) → problem a (inner_part a t) ≡ problem a t
  inner_problem a unit = refl
  inner_problem a (name b) = refl
  inner_problem a (pair t u) = refl
  inner_problem a (app f t) = inner_problem a t ∙ sym (app_problem a f t (app f t) refl)
  inner_problem a (abs b t) =
      elim (name_eq a b) as (λ v. name_eq a b ≡ v → problem a (if v then abs b t else inner_part a t) ≡ problem a (abs b t)) [
        | true ↦ λ e. refl
        | false ↦ λ e. inner_problem a t ∙ sym (abs_problem a b t (abs b t) refl e)
      ] refl
  inner_problem a (susp q x) = refl
