-- Closures at whose head a variable stands, and those at whose head none does.
use Rattle.std.proofs.Common.{◌≡◌, ◌<◌, ◌++◌, ℕ, true, false, List, [], ◌∷◌, length, map, refl, sym, ap, ap₂, subst, arith, ◌∙◌}
use Rattle.std.proofs.lemmas.Bool.Decides.{nat_tests}
use Rattle.std.specs.Prelude.{Some, nat_lt}
use Rattle.ap_defs.specs.Freshness.{var_eq}
use Rattle.ap_defs.specs.Permutations.{disagreement, inverse}
use Rattle.ap_defs.specs.Renaming.{AreSwapsBelow, IsBelow}
use Rattle.ap_defs.specs.Substitution.{Binding, moved, occurs, under}
use Rattle.ap_defs.specs.Terms.{NominalTerm, unit, name, pair, app, abs, act_term, susp}
use Rattle.ap_defs.specs.Unification.{bind, fresh_for, replace, rule, unless_occurs}
use Rattle.ap_defs.specs.declared.terms.Swap.{Swap}
use Rattle.ap_defs.specs.declared.terms.Var.{Var}
use Rattle.ap_store.specs.Heads.{HasForm, IsHeadUnbound, IsHeadVar}
use Rattle.ap_theory.proofs.IdempotenceLemmas.{bound_term_unbound}
use Rattle.ap_theory.proofs.TermLemmas.{act_term_none, same_number}
use Rattle.ap_theory.specs.Variables.{IsUnbound}

-- a variable at the head that is unbound
module _ (s : List Binding) (t : NominalTerm) (p : List Swap) (x : Var) (e : t ≡ susp p x) where
  pub head_var_unbound : IsHeadUnbound s t → IsUnbound s x
  head_var_unbound h = subst (IsHeadUnbound s) e h

  pub head_var_stays : IsHeadUnbound s t → under s t ≡ susp p x
  head_var_stays h = ap (under s) e ∙ ap (moved p x) (bound_term_unbound s x (head_var_unbound h))

module _ (n : ℕ) (t : NominalTerm) (p : List Swap) (x : Var) (e : t ≡ susp p x) (h : IsBelow n t) where
  pub head_swaps_below : AreSwapsBelow n p
  head_swaps_below = let k : IsBelow n (susp p x) = subst (IsBelow n) e h in k.0

  pub head_var_below : x.num < n
  head_var_below = let k : IsBelow n (susp p x) = subst (IsBelow n) e h in k.1

-- a term that is no suspension is none under bindings
pub form_under : (s : List Binding) (t : NominalTerm) → HasForm t → HasForm (under s t)
form_under s unit h = tt
form_under s (name a) h = tt
form_under s (pair t u) h = tt
form_under s (app f t) h = tt
form_under s (abs a t) h = tt
form_under s (susp p x) h = absurd h

-- and no bound variable stands at its head
pub form_unbound : (s : List Binding) (t : NominalTerm) → HasForm t → IsHeadUnbound s t
form_unbound s unit h = tt
form_unbound s (name a) h = tt
form_unbound s (pair t u) h = tt
form_unbound s (app f t) h = tt
form_unbound s (abs a t) h = tt
form_unbound s (susp p x) h = absurd h

pub rule_binds_left : (p : List Swap) (x : Var) (u : NominalTerm) → HasForm u → rule (susp p x) u ≡ unless_occurs x u (act_term (inverse p) u)
rule_binds_left p x unit h = refl
rule_binds_left p x (name a) h = refl
rule_binds_left p x (pair t u) h = refl
rule_binds_left p x (app f t) h = refl
rule_binds_left p x (abs a t) h = refl
rule_binds_left p x (susp q y) h = absurd h

pub rule_binds_right : (t : NominalTerm) (q : List Swap) (y : Var) → HasForm t → rule t (susp q y) ≡ unless_occurs y t (act_term (inverse q) t)
rule_binds_right unit q y h = refl
rule_binds_right (name a) q y h = refl
rule_binds_right (pair t u) q y h = refl
rule_binds_right (app f t) q y h = refl
rule_binds_right (abs a t) q y h = refl
rule_binds_right (susp p x) q y h = absurd h

-- no swapping moves a term back
pub back_by_none : (t : NominalTerm) (p : List Swap) → length p ≡ 0 → t ≡ act_term (inverse p) t
back_by_none t [] e = sym (act_term_none t)
back_by_none t (s ∷ p) e = cc

-- the variable of a suspension, or another one
abbrev var_in : Var → NominalTerm → Var
var_in z (susp p x) = x
var_in z unit = z
var_in z (name a) = z
var_in z (pair t u) = z
var_in z (app f t) = z
var_in z (abs a t) = z

pub susp_var : (p q : List Swap) (x y : Var) → susp p x ≡ susp q y → x ≡ y
susp_var p q x y e = ap (var_in x) e

-- a term without bound variables at its head that has a form under the bindings has it
pub form_there : (s : List Binding) (t : NominalTerm) → IsHeadUnbound s t → HasForm (under s t) → HasForm t
form_there s unit h k = tt
form_there s (name a) h k = tt
form_there s (pair t u) h k = tt
form_there s (app f t) h k = tt
form_there s (abs a t) h k = tt
form_there s (susp p x) h k = subst HasForm (head_var_stays s (susp p x) p x refl h) k

-- what stands there without bound variables at its head, where it is a suspension under the bindings
module _ (s : List Binding) (t u : NominalTerm) (x : Var) (k : IsHeadVar s u (Some x)) (e : under s t ≡ u) where
  pub no_form : HasForm t → ⊥
  no_form h = let (l, m) = k in let (p, f) = m in subst HasForm (e ∙ f) (form_under s t h)

  pub var_there : (q : List Swap) (y : Var) → t ≡ susp q y → IsHeadUnbound s t → x ≡ y
  var_there q y f h = let (l, m) = k in let (p, g) = m in susp_var p q x y (sym g ∙ sym e ∙ head_var_stays s t q y f h)

  pub swaps_there : (q : List Swap) (y : Var) → t ≡ susp q y → IsHeadUnbound s t → u ≡ susp q x
  swaps_there q y f h = sym e ∙ head_var_stays s t q y f h ∙ ap (susp q) (sym (var_there q y f h))

-- two suspensions
module _ (t u : NominalTerm) (p q : List Swap) (x y : Var) (e : t ≡ susp p x) (f : u ≡ susp q y) where
  pub one_differs : x ≡ y → replace [] (map (fresh_for x) (disagreement p q)) ≡ rule t u
  one_differs i =
      let v : var_eq x y ≡ true = same_number x.num y.num (ap (λ (z : Var). z.num) i) in
      let m : replace [] (map (fresh_for x) (disagreement p q)) ≡ rule (susp p x) (susp q y) = rw v refl in
      m ∙ sym (ap₂ rule e f)

  pub right_newer : x.num < y.num → bind y (act_term (inverse q) t) ≡ rule t u
  right_newer i =
      let v : var_eq x y ≡ false = grind (arith, nat_tests) in
      let w : nat_lt x.num y.num ≡ true = grind (arith, nat_tests) in
      let m : bind y (susp (inverse q ++ p) x) ≡ rule (susp p x) (susp q y) = rw (v, w) refl in
      ap (λ r. bind y (act_term (inverse q) r)) e ∙ m ∙ sym (ap₂ rule e f)

  pub left_newer : y.num < x.num → bind x (act_term (inverse p) u) ≡ rule t u
  left_newer i =
      let v : var_eq x y ≡ false = grind (arith, nat_tests) in
      let w : nat_lt x.num y.num ≡ false = grind (arith, nat_tests) in
      let m : bind x (susp (inverse p ++ q) y) ≡ rule (susp p x) (susp q y) = rw (v, w) refl in
      ap (λ r. bind x (act_term (inverse p) r)) f ∙ m ∙ sym (ap₂ rule e f)

-- another variable does not occur in a suspension
pub other_absent : (t : NominalTerm) (p : List Swap) (x y : Var) → t ≡ susp p x → (x.num ≡ y.num → ⊥) → occurs y t ≡ false
other_absent t p x y e h = let v : var_eq y x ≡ false = grind (arith, nat_tests) in ap (occurs y) e ∙ v
