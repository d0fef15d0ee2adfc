-- Numbers that are below a bound.
use Rattle.std.proofs.Common.{◌≡◌, ◌<◌, ◌≤◌, ℕ, true, false, List, [], ◌∷◌, ◌++◌, map, refl, arith}
use Rattle.std.specs.Prelude.{if◌then◌else◌}
use Rattle.ap_defs.specs.Freshness.{var_eq}
use Rattle.ap_defs.specs.Permutations.{act_name, left_name, name_eq, right_name, swap_name}
use Rattle.ap_defs.specs.Renaming.{AreBindingsBelow, AreSwapsBelow, IsBelow}
use Rattle.ap_defs.specs.Substitution.{Binding, put, put_binding, under, ◌:=◌}
use Rattle.ap_defs.specs.Terms.{NominalTerm, abs, act_term, app, name, pair, susp, unit}
use Rattle.ap_defs.specs.declared.terms.Name.{Name}
use Rattle.ap_defs.specs.declared.terms.Swap.{Swap}
use Rattle.ap_defs.specs.declared.terms.Var.{Var}

module _ (m n : ℕ) (l : n ≤ m) where
  pub swaps_below_more : (p : List Swap) → AreSwapsBelow n p → AreSwapsBelow m p
  swaps_below_more [] h = tt
  swaps_below_more (s ∷ p) h = (omega arith, omega arith, swaps_below_more p h.2)

  pub below_more : (t : NominalTerm) → IsBelow n t → IsBelow m t
  below_more unit h = tt
  below_more (name a) h = omega arith
  below_more (pair t u) h = (below_more t h.0, below_more u h.1)
  below_more (app f t) h = below_more t h
  below_more (abs a t) h = (omega arith, below_more t h.1)
  below_more (susp p x) h = (swaps_below_more p h.0, omega arith)

  pub bindings_below_more : (bs : List Binding) → AreBindingsBelow n bs → AreBindingsBelow m bs
  bindings_below_more [] h = tt
  bindings_below_more ((x := t) ∷ bs) h = ((omega arith, below_more t h.0.1), bindings_below_more bs h.1)

module _ (n : ℕ) where
  pub swaps_below-append : (p q : List Swap) → AreSwapsBelow n p → AreSwapsBelow n q → AreSwapsBelow n (p ++ q)
  swaps_below-append [] q h k = k
  swaps_below-append (s ∷ p) q h k = (h.0, h.1, swaps_below-append p q h.2 k)

  swap_name_below : (s : Swap) (a : Name) → s.left < n → s.right < n → a.num < n → (swap_name s a).num < n
  unfolding swap_name
  swap_name_below s a h k l =
      elim (name_eq a (left_name s)) as (λ b. (if b then right_name s else (if name_eq a (right_name s) then left_name s else a)).num < n) [
        | true ↦ k
        | false ↦ elim (name_eq a (right_name s)) as (λ b. (if b then left_name s else a).num < n) [ true ↦ h | false ↦ l ]
      ]

  act_name_below : (p : List Swap) (a : Name) → AreSwapsBelow n p → a.num < n → (act_name p a).num < n
  act_name_below [] a h l = l
  act_name_below (s ∷ p) a h l = swap_name_below s (act_name p a) h.0 h.1 (act_name_below p a h.2 l)

  pub act_below : (p : List Swap) → AreSwapsBelow n p → (t : NominalTerm) → IsBelow n t → IsBelow n (act_term p t)
  act_below p h unit k = tt
  act_below p h (name a) k = act_name_below p a h k
  act_below p h (pair t u) k = (act_below p h t k.0, act_below p h u k.1)
  act_below p h (app f t) k = act_below p h t k
  act_below p h (abs a t) k = (act_name_below p a h k.0, act_below p h t k.1)
  act_below p h (susp q x) k = (swaps_below-append p q h k.0, k.1)

  put_below : (x : Var) (v : NominalTerm) → IsBelow n v → (t : NominalTerm) → IsBelow n t → IsBelow n (put x v t)
  put_below x v h unit k = tt
  put_below x v h (name a) k = k
  put_below x v h (pair t u) k = (put_below x v h t k.0, put_below x v h u k.1)
  put_below x v h (app f t) k = put_below x v h t k
  put_below x v h (abs a t) k = (k.0, put_below x v h t k.1)
  put_below x v h (susp p y) k =
      elim (var_eq x y) as (λ b. IsBelow n (if b then act_term p v else susp p y)) [ true ↦ act_below p k.0 v h | false ↦ k ]

  pub bindings_below_put : (x : Var) (v : NominalTerm) → IsBelow n v → (bs : List Binding) → AreBindingsBelow n bs → AreBindingsBelow n (map (put_binding x v) bs)
  bindings_below_put x v h [] k = tt
  bindings_below_put x v h ((y := t) ∷ bs) k = ((k.0.0, put_below x v h t k.0.1), bindings_below_put x v h bs k.1)

  moved_below : (p : List Swap) (x : Var) → AreSwapsBelow n p → x.num < n → (bs : List Binding) → AreBindingsBelow n bs → IsBelow n (under bs (susp p x))
  moved_below p x h l [] k = (h, l)
  moved_below p x h l ((y := t) ∷ bs) k =
      elim (var_eq x y) as (λ b. var_eq x y ≡ b → IsBelow n (under ((y := t) ∷ bs) (susp p x))) [
        | true ↦ λ e. rw e (act_below p h t k.0.1)
        | false ↦ λ e. rw e (moved_below p x h l bs k.1)
      ] refl

  pub under_below : (bs : List Binding) → AreBindingsBelow n bs → (t : NominalTerm) → IsBelow n t → IsBelow n (under bs t)
  under_below bs h unit k = tt
  under_below bs h (name a) k = k
  under_below bs h (pair t u) k = (under_below bs h t k.0, under_below bs h u k.1)
  under_below bs h (app f t) k = under_below bs h t k
  under_below bs h (abs a t) k = (k.0, under_below bs h t k.1)
  under_below bs h (susp p x) k = moved_below p x k.0 k.1 bs h
