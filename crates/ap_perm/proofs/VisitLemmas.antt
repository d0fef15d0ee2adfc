-- How many nodes are visited where bindings are followed: a measure.
use Rattle.std.proofs.Common.{◌≡◌, ◌<◌, ◌≤◌, ℕ, zero, suc, true, false, ◌+◌, max, List, [], refl, ap, ◌∙◌, arith}
use Rattle.std.specs.Prelude.{None, Option, Some, if◌then◌else◌}
use Rattle.ap_defs.specs.Permutations.{name_eq}
use Rattle.ap_defs.specs.Terms.{NominalTerm, abs, act_term, app, name, pair, susp, unit}
use Rattle.ap_defs.specs.Unification.{size}
use Rattle.ap_defs.specs.declared.terms.Name.{Name}
use Rattle.ap_defs.specs.declared.terms.Swap.{Swap}
use Rattle.ap_defs.specs.declared.terms.Var.{Var}
use Rattle.ap_perm.proofs.LookupLemmas.{depth_act, depth_ranked, occurs_depth}
use Rattle.ap_perm.specs.Lookups.{Bound, IsRanked, depth_of}
use Rattle.ap_perm.specs.Inner.{inner_part}
use Rattle.ap_theory.proofs.SubstitutionLemmas.{applied_act, applied_local}
use Rattle.ap_theory.proofs.TermLemmas.{size_act_term, size_pos}
use Rattle.ap_theory.specs.Substitutions.{Substitution, applied}

-- a variable's term, with a node on top of it
abbrev marked : Substitution → Var → Option NominalTerm → NominalTerm
marked s x None = susp [] x
marked s x (Some t) = app 0 (applied s t)

abbrev unrolled : Bound → ℕ → Substitution
unrolled bound zero x = susp [] x
unrolled bound (suc n) x = marked (unrolled bound n) x (bound x)

abbrev pub visits : Bound → (Var → ℕ) → NominalTerm → ℕ
visits bound rank t = size (applied (unrolled bound (depth_of rank t)) t)

marked_alike : (r s : Substitution) (x : Var) (o : Option NominalTerm) → ((t : NominalTerm) → o ≡ Some t → applied r t ≡ applied s t) → marked r x o ≡ marked s x o
marked_alike r s x None f = refl
marked_alike r s x (Some t) f = ap (app 0) (f t refl)

module _ (bound : Bound) (rank : Var → ℕ) (ranked : IsRanked bound rank) where
  unrolled_alike : (n m : ℕ) (x : Var) → rank x < n → rank x < m → unrolled bound n x ≡ unrolled bound m x
  unrolled_alike zero m x h k = absurd (omega arith)
  unrolled_alike (suc n) zero x h k = absurd (omega arith)
  unrolled_alike (suc n) (suc m) x h k =
      marked_alike (unrolled bound n) (unrolled bound m) x (bound x) (λ t e. applied_local (unrolled bound n) (unrolled bound m) t (λ y i. let l = ranked x y t e i in unrolled_alike n m y (omega arith) (omega arith)))

  visits_deep : (n : ℕ) (t : NominalTerm) → depth_of rank t ≤ n → size (applied (unrolled bound n) t) ≡ visits bound rank t
  visits_deep n t h =
      ap size (applied_local (unrolled bound n) (unrolled bound (depth_of rank t)) t (λ y i. let l = occurs_depth rank y t i in unrolled_alike n (depth_of rank t) y (omega arith) (omega arith)))

  pub visits_left : (t u : NominalTerm) → visits bound rank t < visits bound rank (pair t u)
  visits_left t u =
      let n : ℕ = max (depth_of rank t) (depth_of rank u) in
      let h = visits_deep n t (omega arith) in
      omega arith

  pub visits_right : (t u : NominalTerm) → visits bound rank u < visits bound rank (pair t u)
  visits_right t u =
      let n : ℕ = max (depth_of rank t) (depth_of rank u) in
      let h = visits_deep n u (omega arith) in
      omega arith

  pub visits_pair : (t u : NominalTerm) → visits bound rank t + visits bound rank u < visits bound rank (pair t u)
  visits_pair t u =
      let n : ℕ = max (depth_of rank t) (depth_of rank u) in
      let h = visits_deep n t (omega arith) in
      let k = visits_deep n u (omega arith) in
      omega arith

  pub visits_app : (f : ℕ) (t : NominalTerm) → visits bound rank (app f t) ≡ 1 + visits bound rank t
  visits_app f t = refl

  pub visits_abs : (a : Name) (t : NominalTerm) → visits bound rank (abs a t) ≡ 1 + visits bound rank t
  visits_abs a t = refl

  pub visits_inner : (a : Name) (t : NominalTerm) → visits bound rank (inner_part a t) ≤ visits bound rank t
  visits_inner a unit = omega arith
  visits_inner a (name b) = omega arith
  visits_inner a (pair t u) = omega arith
  visits_inner a (app f t) = let h = visits_inner a t in let k = visits_app f t in omega (arith, h, k)
  visits_inner a (abs b t) =
      elim (name_eq a b) as (λ v. visits bound rank (if v then abs b t else inner_part a t) ≤ visits bound rank (abs b t)) [
        | true ↦ omega arith
        | false ↦ let h = visits_inner a t in let k = visits_abs b t in omega (arith, h, k)
      ]
  visits_inner a (susp q x) = omega arith

  pub visits_some : (t : NominalTerm) → 0 < visits bound rank t
  visits_some t = let h = size_pos (applied (unrolled bound (depth_of rank t)) t) in omega arith

  pub visits_act : (p : List Swap) (t : NominalTerm) → visits bound rank (act_term p t) ≡ visits bound rank t
  visits_act p t =
      ap (λ n. size (applied (unrolled bound n) (act_term p t))) (depth_act rank p t)
      ∙ ap size (applied_act (unrolled bound (depth_of rank t)) p t) ∙ size_act_term p (applied (unrolled bound (depth_of rank t)) t)

  pub visits_bound : (q : List Swap) (x : Var) (p : List Swap) (t : NominalTerm) → bound x ≡ Some (act_term p t) → visits bound rank t < visits bound rank (susp q x)
  visits_bound q x p t e =
      let u = act_term p t in
      let h : visits bound rank (susp q x) ≡ 1 + visits bound rank u =
      size_act_term q (marked (unrolled bound (rank x)) x (bound x)) ∙ ap (λ o. size (marked (unrolled bound (rank x)) x o)) e
      ∙ ap (λ n. 1 + n) (visits_deep (rank x) u (depth_ranked bound rank ranked x u e)) in
      let k = visits_act p t in
      omega arith
