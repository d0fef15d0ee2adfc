-- Equations of parts on which swappings wait.
use Rattle.std.proofs.Common.{◌≡◌, ◌<◌, ℕ, true, false, List, [], ◌∷◌, ◌++◌, refl, subst, sym, ap, ◌∙◌}
use Rattle.std.proofs.lemmas.List.{append-nil}
use Rattle.std.specs.Prelude.{if◌then◌else◌}
use Rattle.ap_defs.specs.Permutations.{inverse}
use Rattle.ap_defs.specs.Renaming.{AreSwapsBelow, IsBelow, rename_term}
use Rattle.ap_defs.specs.Substitution.{Binding, occurs, under}
use Rattle.ap_defs.specs.Terms.{NominalTerm, abs, act_term, app, name, pair, susp, term_of, unit}
use Rattle.ap_defs.specs.Unification.{bind, clash, rule, unless_occurs}
use Rattle.ap_defs.specs.declared.terms.Swap.{Swap}
use Rattle.ap_defs.specs.declared.terms.Term.{Term}
use Rattle.ap_defs.specs.declared.terms.Term.TheVariants as code
use Rattle.ap_defs.specs.declared.terms.Var.{Var}
use Rattle.ap_rules.proofs.SuspensionLemmas.{form_under, head_var_stays, rule_binds_left, rule_binds_right}
use Rattle.ap_search.proofs.NumberLemmas.{act_below}
use Rattle.ap_rules.proofs.MoveLemmas.{moved_under}
use Rattle.ap_store.specs.Heads.{HasForm, IsHeadUnbound}
use Rattle.ap_store.specs.Marks.{HasNoVars}
use Rattle.ap_theory.proofs.SubstitutionLemmas.{under_act}
use Rattle.ap_theory.proofs.TermLemmas.{occurs_act}
use Rattle.ap_theory.specs.Variables.{IsUnbound}
use Rattle.ap_unify.specs.Parts.{HasVariable}

-- a closure on which swappings act
module _ (p : List Swap) (t u : NominalTerm) (e : u ≡ act_term p t) where
  pub moved_below : (n : ℕ) → AreSwapsBelow n p → IsBelow n t → IsBelow n u
  moved_below n h k = subst (IsBelow n) (sym e) (act_below n p h t k)

  pub moved_occurs : (s : List Binding) (x : Var) → occurs x (under s u) ≡ occurs x (under s t)
  moved_occurs s x = ap (occurs x) (moved_under s p t u e) ∙ occurs_act x p (under s t)

  pub moved_ground : (s : List Binding) → HasNoVars (under s t) → HasNoVars (under s u)
  moved_ground s h = λ y. moved_occurs s y ∙ h y

-- swappings that wait on a suspension, and those of the suspension
module _ (n : ℕ) where
  front_below : (p q : List Swap) → AreSwapsBelow n (p ++ q) → AreSwapsBelow n p
  front_below [] q h = tt
  front_below (s ∷ p) q h = (h.0, h.1, front_below p q h.2)

  behind_below : (p q : List Swap) → AreSwapsBelow n (p ++ q) → AreSwapsBelow n q
  behind_below [] q h = h
  behind_below (s ∷ p) q h = behind_below p q h.2

  -- a variable at the head is followed below swappings
  pub followed_below : (q : List Swap) (t u : NominalTerm) → HasVariable t → (IsBelow n t → IsBelow n u) → IsBelow n (act_term q t) → IsBelow n (act_term q u)
  followed_below q (susp r x) u h f k = act_below n q (front_below q r k.0) u (f (behind_below q r k.0, k.1))
  followed_below q unit u h f k = absurd h
  followed_below q (name a) u h f k = absurd h
  followed_below q (pair t v) u h f k = absurd h
  followed_below q (app g t) u h f k = absurd h
  followed_below q (abs a t) u h f k = absurd h

  -- of an unbound variable
  module _ (p : List Swap) (t : NominalTerm) (x : Var) (e : t ≡ susp [] x) (h : IsBelow n (act_term p t)) where
    there : IsBelow n (susp (p ++ []) x)
    there = subst (λ u. IsBelow n (act_term p u)) e h

    pub free_swaps_below : AreSwapsBelow n p
    free_swaps_below = front_below p [] there.0

    pub free_made : x.num < n
    free_made = there.1

-- a suspension, numbered
pub susp_has_variable : (base : ℕ) (t : Term) (q : List Swap) (x : Var) → t ≡ code.Susp q x → HasVariable (rename_term base (term_of t))
susp_has_variable base t q x e = subst (λ (u : Term). HasVariable (rename_term base (term_of u))) (sym e) tt

-- under the bindings swappings act as before
pub act_under : (s : List Binding) (p : List Swap) (t u : NominalTerm) → under s u ≡ under s t → under s (act_term p u) ≡ under s (act_term p t)
act_under s p t u e = under_act s p u ∙ ap (act_term p) e ∙ sym (under_act s p t)

pub act_form : (p : List Swap) (t : NominalTerm) → HasForm t → HasForm (act_term p t)
act_form p unit h = tt
act_form p (name a) h = tt
act_form p (pair t u) h = tt
act_form p (app f t) h = tt
act_form p (abs a t) h = tt
act_form p (susp q x) h = absurd h

module _ (s : List Binding) where
  free_moved : (p : List Swap) (x : Var) (t : NominalTerm) → t ≡ susp [] x → IsUnbound s x → under s (act_term p t) ≡ susp p x
  free_moved p x t e h =
      let f : act_term p t ≡ susp p x = ap (act_term p) e ∙ ap (λ q. susp q x) (append-nil p) in
      head_var_stays s (act_term p t) p x f (subst (IsHeadUnbound s) (sym f) h)

  -- an unbound variable on the left, or on the right, on which swappings wait
  pub moved_left : (p : List Swap) (x : Var) (t u : NominalTerm) → (t ≡ susp [] x) × IsUnbound s x → HasForm u
      → unless_occurs x (under s u) (act_term (inverse p) (under s u)) ≡ rule (under s (act_term p t)) (under s u)
  moved_left p x t u (e, h) f = sym (ap (λ v. rule v (under s u)) (free_moved p x t e h) ∙ rule_binds_left p x (under s u) (form_under s u f))

  pub moved_right : (p : List Swap) (y : Var) (t u : NominalTerm) → HasForm t → (u ≡ susp [] y) × IsUnbound s y
      → unless_occurs y (under s t) (act_term (inverse p) (under s t)) ≡ rule (under s t) (under s (act_term p u))
  moved_right p y t u f (e, h) = sym (ap (rule (under s t)) (free_moved p y u e h) ∙ rule_binds_right (under s t) p y (form_under s t f))

-- a variable is bound unless it occurs
pub clash_where_occurs : (x : Var) (t u : NominalTerm) → occurs x t ≡ true → unless_occurs x t u ≡ clash
clash_where_occurs x t u e = ap (λ v. if v then clash else bind x u) e

pub bind_where_absent : (x : Var) (t u : NominalTerm) → occurs x t ≡ false → unless_occurs x t u ≡ bind x u
bind_where_absent x t u e = ap (λ v. if v then clash else bind x u) e
