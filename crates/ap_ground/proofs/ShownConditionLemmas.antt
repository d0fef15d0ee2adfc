-- The shown conditions, and bindings that are shown.
use Rattle.std.proofs.Common.{◌≡◌, ℕ, Bool, true, false, ◌&&◌, List, [], ◌∷◌, map, refl, sym, ap, ap₂, ◌∙◌}
use Rattle.std.specs.Prelude.{if◌then◌else◌, codes}
use Rattle.std.specs.Str.{bytes_eq}
use Rattle.ap_defs.specs.Alpha.{fresh}
use Rattle.ap_defs.specs.Freshness.{Conds}
use Rattle.ap_defs.specs.Groundings.{Grounding, grounded, meets}
use Rattle.ap_defs.specs.Lines.{insert_cond, shown_binds, sort_conds, terms_of_binds}
use Rattle.ap_defs.specs.Occurrences.{names_of_terms, names_then, vars_of_terms}
use Rattle.ap_defs.specs.Permutations.{act_name, has_name}
use Rattle.ap_defs.specs.Terms.{GroundTerm, NominalTerm, abs, act_ground, app, name, pair, susp, unit}
use Rattle.ap_defs.specs.Unification.{has_var, vars_then}
use Rattle.ap_defs.specs.declared.terms.Cond.{Cond}
use Rattle.ap_defs.specs.declared.terms.Name.{Name}
use Rattle.ap_defs.specs.declared.terms.Swap.{Swap}
use Rattle.ap_defs.specs.declared.terms.Var.{Var}
use Rattle.ap_theory.proofs.BooleanLemmas.{or_if_left, or_if_right}
use Rattle.ap_theory.proofs.GroundLemmas.{act_ground-append, act_ground_none, act_ground_same}
use Rattle.ap_theory.proofs.PermutationLemmas.{act-append}
use Rattle.ap_theory.proofs.ReplacementLemmas.{act_grounded, replace_names_fixed}
use Rattle.ap_theory.proofs.TermLemmas.{same_var}
use Rattle.ap_defs.specs.Freshness.{var_eq}
use Rattle.ap_ground.specs.ShownInstances.{shown_terms}
use Rattle.ap_ground.proofs.ListLemmas.{has_names_then, has_vars_then}

-- A grounding doesn't see the order of conditions.
and_swap : (x y z : Bool) → (x && (y && z)) ≡ (y && (x && z))
and_swap true y z = refl
and_swap false true z = refl
and_swap false false z = refl

meets_insert : (g : Grounding) (before : Cond → Cond → Bool) (c : Cond) (cs : Conds) → meets g (insert_cond before c cs) ≡ (fresh c.name (g c.var) && meets g cs)
meets_insert g before c [] = refl
meets_insert g before c (d ∷ ds) =
    elim (before c d) as (λ v. meets g (if v then (c ∷ d ∷ ds) else (d ∷ insert_cond before c ds)) ≡ (fresh c.name (g c.var) && meets g (d ∷ ds))) [
      | true ↦ refl
      | false ↦ ap (λ v. fresh d.name (g d.var) && v) (meets_insert g before c ds) ∙ and_swap (fresh d.name (g d.var)) (fresh c.name (g c.var)) (meets g ds)
    ]

pub meets_sorted : (g : Grounding) (before : Cond → Cond → Bool) (cs : Conds) → meets g (sort_conds before cs) ≡ meets g cs
meets_sorted g before [] = refl
meets_sorted g before (c ∷ cs) = meets_insert g before c (sort_conds before cs) ∙ ap (λ v. fresh c.name (g c.var) && v) (meets_sorted g before cs)

-- Groundings that are alike on the variables of a term.
pub grounded_alike : (g h : Grounding) (t : NominalTerm) → ((x : Var) → has_var x (vars_then t []) ≡ true → g x ≡ h x) → grounded g t ≡ grounded h t
grounded_alike g h unit k = refl
grounded_alike g h (name a) k = refl
grounded_alike g h (pair t u) k =
    ap₂ pair
    (grounded_alike g h t (λ x i. k x (has_vars_then x t (vars_then u []) ∙ or_if_left (has_var x (vars_then t [])) (has_var x (vars_then u [])) i)))
    (grounded_alike g h u (λ x i. k x (has_vars_then x t (vars_then u []) ∙ or_if_right (has_var x (vars_then t [])) (has_var x (vars_then u [])) i)))
grounded_alike g h (app f t) k = ap (app f) (grounded_alike g h t k)
grounded_alike g h (abs a t) k = ap (abs a) (grounded_alike g h t k)
grounded_alike g h (susp p x) k = ap (act_ground p) (k x (or_if_left (var_eq x x) false (same_var x x refl)))

-- A permutation that undoes itself, and two groundings that are alike on the variables that are shown.
module _ (s : List Swap) (twice : (b : Name) → act_name s (act_name s b) ≡ b) (g h : Grounding) where
  abbrev Moved : Grounding
  Moved x = act_ground s (g x)

  twice_ground : (t : GroundTerm) → act_ground s (act_ground s t) ≡ t
  twice_ground t = sym (act_ground-append s s t) ∙ act_ground_same _ [] (λ b. act-append s s b ∙ twice b) t ∙ act_ground_none t

  moved_back : (t : NominalTerm) → ((b : Name) → has_name b (names_then t []) ≡ true → act_name s b ≡ b)
      → ((x : Var) → has_var x (vars_then t []) ≡ true → g x ≡ h x) → act_ground s (grounded Moved t) ≡ grounded h t
  moved_back t fixed alike =
      act_grounded s Moved t
      ∙ ap (grounded (λ x. act_ground s (Moved x))) (replace_names_fixed s t fixed)
      ∙ grounded_alike (λ x. act_ground s (Moved x)) h t (λ x k. twice_ground (g x) ∙ alike x k)

  pub shown_back : (ws : List (List ℕ)) (ts : List NominalTerm)
      → ((b : Name) → has_name b (names_of_terms (terms_of_binds (shown_binds ws ts))) ≡ true → act_name s b ≡ b)
      → ((x : Var) → has_var x (vars_of_terms (terms_of_binds (shown_binds ws ts))) ≡ true → g x ≡ h x)
      → shown_terms ws (map (act_ground s) (map (grounded Moved) ts)) ≡ map (grounded h) (terms_of_binds (shown_binds ws ts))
  shown_back [] ts fixed alike = refl
  shown_back (w ∷ ws) [] fixed alike = refl
  shown_back (w ∷ ws) (t ∷ ts) fixed alike =
      let rest = terms_of_binds (shown_binds ws ts) in
      elim (bytes_eq w (codes "_")) as (λ v. ((b : Name) → has_name b (names_of_terms (terms_of_binds (if v then shown_binds ws ts else ((w, t) ∷ shown_binds ws ts)))) ≡ true → act_name s b ≡ b)
      → ((x : Var) → has_var x (vars_of_terms (terms_of_binds (if v then shown_binds ws ts else ((w, t) ∷ shown_binds ws ts)))) ≡ true → g x ≡ h x)
      → (if v then shown_terms ws (map (act_ground s) (map (grounded Moved) ts)) else (act_ground s (grounded Moved t) ∷ shown_terms ws (map (act_ground s) (map (grounded Moved) ts))))
      ≡ map (grounded h) (terms_of_binds (if v then shown_binds ws ts else ((w, t) ∷ shown_binds ws ts)))) [
        | true ↦ λ fix like. shown_back ws ts fix like
        | false ↦ λ fix like. ap₂ ◌∷◌
            (moved_back t
            (λ b k. fix b (has_names_then b t (names_of_terms rest) ∙ or_if_left (has_name b (names_then t [])) (has_name b (names_of_terms rest)) k))
            (λ x k. like x (has_vars_then x t (vars_of_terms rest) ∙ or_if_left (has_var x (vars_then t [])) (has_var x (vars_of_terms rest)) k)))
            (shown_back ws ts
            (λ b k. fix b (has_names_then b t (names_of_terms rest) ∙ or_if_right (has_name b (names_then t [])) (has_name b (names_of_terms rest)) k))
            (λ x k. like x (has_vars_then x t (vars_of_terms rest) ∙ or_if_right (has_var x (vars_then t [])) (has_var x (vars_of_terms rest)) k)))
      ] fixed alike
