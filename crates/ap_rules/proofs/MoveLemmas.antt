-- What the rules make of closures, seen under bindings.
use Rattle.std.proofs.Common.{◌≡◌, ◌<◌, ℕ, false, List, [], ◌∷◌, ◌++◌, ap, refl, reverse, sym, subst, ◌∙◌}
use Rattle.std.proofs.lemmas.List.{reverse-append}
use Rattle.ap_defs.specs.Permutations.{inverse, swap_of}
use Rattle.ap_defs.specs.Renaming.{AreSwapsBelow, IsBelow}
use Rattle.ap_defs.specs.Substitution.{Binding, occurs, under}
use Rattle.ap_defs.specs.Terms.{NominalTerm, act_term}
use Rattle.ap_defs.specs.declared.terms.Name.{Name}
use Rattle.ap_defs.specs.declared.terms.Swap.{Swap}
use Rattle.ap_defs.specs.declared.terms.Var.{Var}
use Rattle.ap_search.proofs.NumberLemmas.{act_below, inverse_below}
use Rattle.ap_theory.proofs.SubstitutionLemmas.{under_act}
use Rattle.ap_theory.proofs.TermLemmas.{occurs_act}
use Rattle.ap_store.specs.Marks.{HasNoVars}

pub moved_under : (s : List Binding) (p : List Swap) (t u : NominalTerm) → u ≡ act_term p t → under s u ≡ act_term p (under s t)
moved_under s p t u e = ap (under s) e ∙ under_act s p t

pub back_below : (n : ℕ) (p : List Swap) (t u : NominalTerm) → AreSwapsBelow n p → IsBelow n t → u ≡ act_term (inverse p) t → IsBelow n u
back_below n p t u h k e = subst (IsBelow n) (sym e) (act_below n (inverse p) (inverse_below n p h) t k)

pub back_absent : (s : List Binding) (x : Var) (p : List Swap) (t u : NominalTerm) → occurs x (under s t) ≡ false → u ≡ act_term (inverse p) t → occurs x (under s u) ≡ false
back_absent s x p t u h e = ap (occurs x) (moved_under s (inverse p) t u e) ∙ occurs_act x (inverse p) (under s t) ∙ h

pub back_ground : (s : List Binding) (p : List Swap) (t u : NominalTerm) → HasNoVars (under s t) → u ≡ act_term (inverse p) t → HasNoVars (under s u)
back_ground s p t u h e = λ y. ap (occurs y) (moved_under s (inverse p) t u e) ∙ occurs_act y (inverse p) (under s t) ∙ h y

pub swapped_below : (n : ℕ) (a b : Name) (t u : NominalTerm) → a.num < n → b.num < n → IsBelow n t → u ≡ act_term (swap_of a b ∷ []) t → IsBelow n u
swapped_below n a b t u l m h e = subst (IsBelow n) (sym e) (act_below n (swap_of a b ∷ []) (l, m, tt) t h)

pub reverse_inverse : (p : List Swap) → reverse p ≡ inverse p
reverse_inverse [] = refl
reverse_inverse (s ∷ p) = reverse-append (s ∷ []) p ∙ ap (λ q. q ++ s ∷ []) (reverse_inverse p)
