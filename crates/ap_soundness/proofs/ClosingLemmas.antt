-- Each variable of a state that was found has what it is bound to, under a grounding of what is unbound.
use Rattle.std.proofs.Common.{◌≡◌, Bool, true, false, List, [], ◌∷◌, refl, sym, ap, ap₂, ◌∙◌, true≢false}
use Rattle.std.specs.Prelude.{if◌then◌else◌, Option, Some, None}
use Rattle.ap_defs.specs.Alpha.{alpha, fresh}
use Rattle.ap_defs.specs.Canonical.{canonical, canonical_term}
use Rattle.ap_defs.specs.Freshness.{Conds, var_eq}
use Rattle.ap_defs.specs.Groundings.{Grounding, agrees, grounded, meets}
use Rattle.ap_defs.specs.Resolution.{State}
use Rattle.ap_defs.specs.Substitution.{Binding, bound_term, moved, under, ◌:=◌}
use Rattle.ap_defs.specs.Terms.{NominalTerm, abs, act_ground, app, name, pair, susp, unit}
use Rattle.ap_defs.specs.declared.terms.Swap.{Swap}
use Rattle.ap_defs.specs.declared.terms.Var.{Var}
use Rattle.ap_search.specs.FitStates.{IsFitState}
use Rattle.ap_theory.specs.Variables.{BindsOnce, BindsUnbound, EachCond, IsUnbound, is_bound}
use Rattle.ap_theory.proofs.BooleanLemmas.{and_both, and_left, and_right, or_if_left, or_if_right}
use Rattle.ap_theory.proofs.CanonicalLemmas.{canonical_act}
use Rattle.ap_theory.proofs.GroundLemmas.{act_ground_none, act_ground_same, alpha_itself}
use Rattle.ap_theory.proofs.GroundingLemmas.{grounded_act}
use Rattle.ap_theory.proofs.IdempotenceLemmas.{bound_term_unbound, under_unbound}
use Rattle.ap_theory.proofs.TermLemmas.{act_term_none, same_var, var_same}
use Rattle.ap_soundness.specs.FoundStates.{Solves}

-- canonical lists change no ground meaning
pub grounded_canonical : (g : Grounding) (t : NominalTerm) → grounded g (canonical_term t) ≡ grounded g t
grounded_canonical g unit = refl
grounded_canonical g (name a) = refl
grounded_canonical g (pair t u) = ap₂ pair (grounded_canonical g t) (grounded_canonical g u)
grounded_canonical g (app f t) = ap (app f) (grounded_canonical g t)
grounded_canonical g (abs a t) = ap (abs a) (grounded_canonical g t)
grounded_canonical g (susp p x) = act_ground_same (canonical p) p (canonical_act p) (g x)

module _ (bs : List Binding) (g : Grounding) where
  -- each variable has what it is bound to
  abbrev pub closing : Grounding
  closing x = grounded g (under bs (susp [] x))

  grounded_moved : (p : List Swap) (x : Var) (o : Option NominalTerm) → act_ground p (grounded g (moved [] x o)) ≡ grounded g (moved p x o)
  grounded_moved p x None = ap (act_ground p) (act_ground_none (g x))
  grounded_moved p x (Some t) = ap (λ u. act_ground p (grounded g u)) (act_term_none t) ∙ sym (grounded_act g p t)

  grounded_closing : (t : NominalTerm) → grounded closing t ≡ grounded g (under bs t)
  grounded_closing unit = refl
  grounded_closing (name a) = refl
  grounded_closing (pair t u) = ap₂ pair (grounded_closing t) (grounded_closing u)
  grounded_closing (app f t) = ap (app f) (grounded_closing t)
  grounded_closing (abs a t) = ap (abs a) (grounded_closing t)
  grounded_closing (susp p x) = grounded_moved p x (bound_term bs x)

  -- it agrees with the bindings
  closing_agrees : (cs : List Binding) → ((y : Var) → is_bound y cs ≡ true → bound_term bs y ≡ bound_term cs y) → BindsUnbound bs cs → BindsOnce cs → agrees closing cs ≡ true
  closing_agrees [] m h o = refl
  closing_agrees ((x := t) ∷ cs) m h o =
      let itself = same_var x x refl in
      let bound : bound_term bs x ≡ Some t = m x (or_if_left (var_eq x x) (is_bound x cs) itself) ∙ ap (λ (b : Bool). if b then Some t else bound_term cs x) itself in
      let left : closing x ≡ grounded g t = ap (λ u. grounded g (moved [] x u)) bound ∙ ap (grounded g) (act_term_none t) in
      let right : grounded closing t ≡ grounded g t = grounded_closing t ∙ ap (grounded g) (under_unbound bs t h.0) in
      and_both (alpha (closing x) (grounded closing t)) (agrees closing cs) (ap₂ alpha left right ∙ alpha_itself (grounded g t))
      (closing_agrees cs (λ y b. m y (or_if_right (var_eq y x) (is_bound y cs) b) ∙ further y b) h.1 o.1)
    where
      further : (y : Var) → is_bound y cs ≡ true → (if var_eq y x then Some t else bound_term cs y) ≡ bound_term cs y
      further y b =
          elim (var_eq y x) as (λ v. var_eq y x ≡ v → (if v then Some t else bound_term cs y) ≡ bound_term cs y) [
            | true ↦ λ e. absurd (true≢false (sym b ∙ ap (λ z. is_bound z cs) (var_same y x e) ∙ o.0))
            | false ↦ λ e. refl
          ] refl

  -- and changes nothing of unbound variables
  closing_meets : (ds : Conds) → EachCond (IsUnbound bs) ds → meets g ds ≡ true → meets closing ds ≡ true
  closing_meets [] h m = refl
  closing_meets (c ∷ ds) h m =
      let here : closing c.var ≡ g c.var = ap (λ o. grounded g (moved [] c.var o)) (bound_term_unbound bs c.var h.0) ∙ act_ground_none (g c.var) in
      let first = fresh c.name (g c.var) in
      and_both (fresh c.name (closing c.var)) (meets closing ds) (ap (fresh c.name) here ∙ and_left first (meets g ds) m) (closing_meets ds h.1 (and_right first (meets g ds) m))

pub closing_solves : (s : State) → IsFitState s → (g : Grounding) → meets g s.conditions ≡ true → Solves (closing s.bindings g) s
closing_solves s h g m = record {
  agreeing = closing_agrees s.bindings g s.bindings (λ y b. refl) h.idempotent.0 h.idempotent.1;
  meeting = closing_meets s.bindings g s.conditions h.unbound m;
}
