-- Each name replaced by its image, in the lists of suspensions too.
use Rattle.std.proofs.Common.{◌≡◌, ℕ, true, false, not, List, [], ◌∷◌, ◌++◌, map, refl, sym, ap, ap₂, ◌∙◌}
use Rattle.ap_defs.specs.Alpha.{fresh}
use Rattle.ap_defs.specs.Groundings.{Grounding, grounded}
use Rattle.ap_defs.specs.Occurrences.{names_then}
use Rattle.ap_defs.specs.Permutations.{act_name, has_name, left_name, name_eq, names_of, right_name, swap_name}
use Rattle.ap_defs.specs.Renaming.{replace_names, replace_swap}
use Rattle.ap_defs.specs.Terms.{GroundTerm, NominalTerm, abs, act_ground, app, name, pair, susp, unit}
use Rattle.ap_defs.specs.declared.terms.Name.{Name}
use Rattle.ap_defs.specs.declared.terms.Swap.{Swap}
use Rattle.ap_theory.specs.StatementsOnReplacement.{ground_names_then}
use Rattle.ap_theory.proofs.BooleanLemmas.{and_both, or_false, or_if_right}
use Rattle.ap_theory.proofs.DisagreementLemmas.{has_front}
use Rattle.ap_theory.proofs.GroundLemmas.{act_ground-append, act_ground_same}
use Rattle.ap_theory.proofs.PermutationLemmas.{act-append, act_sort, act_swap}

-- a swapping with its names replaced is the swapping on the images
swap_name_replaced : (p : List Swap) (s : Swap) (a : Name) → act_name p (swap_name s a) ≡ swap_name (replace_swap p s) (act_name p a)
swap_name_replaced p s a =
    act_swap p (left_name s) (right_name s) a refl
    ∙ ap (λ n. swap_name (record { sort = n; left = (act_name p (left_name s)).num; right = (act_name p (right_name s)).num }) (act_name p a)) (act_sort p (left_name s))

pub act_name_replaced : (p q : List Swap) (a : Name) → act_name (map (replace_swap p) q) (act_name p a) ≡ act_name p (act_name q a)
act_name_replaced p [] a = refl
act_name_replaced p (s ∷ q) a = ap (swap_name (replace_swap p s)) (act_name_replaced p q a) ∙ sym (swap_name_replaced p s (act_name q a))

-- A permutation that fixes names.
abbrev Fixes : List Swap → List Name → Type 0
Fixes p as' = (a : Name) → has_name a as' ≡ true → act_name p a ≡ a

fixes_rest : (p : List Swap) (b : Name) (as' : List Name) → Fixes p (b ∷ as') → Fixes p as'
fixes_rest p b as' h a m = h a (or_if_right (name_eq a b) (has_name a as') m)

fixes_first : (p : List Swap) (b : Name) (as' : List Name) → Fixes p (b ∷ as') → act_name p b ≡ b
fixes_first p b as' h = h b (has_front b as')

replace_swaps_fixed : (p q : List Swap) (as' : List Name) → Fixes p (names_of q ++ as') → (map (replace_swap p) q ≡ q) × Fixes p as'
replace_swaps_fixed p [] as' h = (refl, h)
replace_swaps_fixed p (s ∷ q) as' h =
    let later = fixes_rest p (left_name s) (right_name s ∷ (names_of q ++ as')) h in
    let rest = replace_swaps_fixed p q as' (fixes_rest p (right_name s) (names_of q ++ as') later) in (
      ap₂ ◌∷◌
          (ap₂ (λ (m n : ℕ). record { sort = s.sort; left = m; right = n })
          (ap (λ n. n.num) (fixes_first p (left_name s) (right_name s ∷ (names_of q ++ as')) h))
          (ap (λ n. n.num) (fixes_first p (right_name s) (names_of q ++ as') later)))
          rest.0,
      rest.1,
    )

replace_names_fixes : (p : List Swap) (t : NominalTerm) (as' : List Name) → Fixes p (names_then t as') → (replace_names p t ≡ t) × Fixes p as'
replace_names_fixes p unit as' h = (refl, h)
replace_names_fixes p (name a) as' h = (ap name (fixes_first p a as' h), fixes_rest p a as' h)
replace_names_fixes p (pair t u) as' h =
    let k = replace_names_fixes p t (names_then u as') h in
    let l = replace_names_fixes p u as' k.1 in
    (ap₂ pair k.0 l.0, l.1)
replace_names_fixes p (app f t) as' h = let k = replace_names_fixes p t as' h in (ap (app f) k.0, k.1)
replace_names_fixes p (abs a t) as' h =
    let k = replace_names_fixes p t as' (fixes_rest p a (names_then t as') h) in
    (ap₂ abs (fixes_first p a (names_then t as') h) k.0, k.1)
replace_names_fixes p (susp q x) as' h = let k = replace_swaps_fixed p q as' h in (ap (λ r. susp r x) k.0, k.1)

pub replace_names_fixed : (p : List Swap) (t : NominalTerm) → ((a : Name) → has_name a (names_then t []) ≡ true → act_name p a ≡ a) → replace_names p t ≡ t
replace_names_fixed p t h = (replace_names_fixes p t [] h).0

-- replacing the names of a term and moving what stands for its variables moves the ground term
pub act_grounded : (p : List Swap) (g : Grounding) (t : NominalTerm) → act_ground p (grounded g t) ≡ grounded (λ x. act_ground p (g x)) (replace_names p t)
act_grounded p g unit = refl
act_grounded p g (name a) = refl
act_grounded p g (pair t u) = ap₂ pair (act_grounded p g t) (act_grounded p g u)
act_grounded p g (app f t) = ap (app f) (act_grounded p g t)
act_grounded p g (abs a t) = ap (abs (act_name p a)) (act_grounded p g t)
act_grounded p g (susp q x) =
    sym (act_ground-append p q (g x))
    ∙ act_ground_same (p ++ q) (map (replace_swap p) q ++ p) (λ a. act-append p q a ∙ sym (act-append (map (replace_swap p) q) p a ∙ act_name_replaced p q a)) (g x)
    ∙ act_ground-append (map (replace_swap p) q) p (g x)

-- Names that a ground term doesn't have.
fresh_absent_then : (a : Name) (t : GroundTerm) (as' : List Name) → has_name a (ground_names_then t as') ≡ false → (fresh a t ≡ true) × (has_name a as' ≡ false)
fresh_absent_then a unit as' h = (refl, h)
fresh_absent_then a (name b) as' h = let k = or_false (name_eq a b) (has_name a as') h in (ap not k.0, k.1)
fresh_absent_then a (pair t u) as' h =
    let k = fresh_absent_then a t (ground_names_then u as') h in
    let l = fresh_absent_then a u as' k.1 in
    (and_both (fresh a t) (fresh a u) k.0 l.0, l.1)
fresh_absent_then a (app f t) as' h = fresh_absent_then a t as' h
fresh_absent_then a (abs b t) as' h =
    let k = or_false (name_eq a b) (has_name a (ground_names_then t as')) h in
    let l = fresh_absent_then a t as' k.1 in
    (or_if_right (name_eq a b) (fresh a t) l.0, l.1)

pub fresh_absent : (a : Name) (t : GroundTerm) → has_name a (ground_names_then t []) ≡ false → fresh a t ≡ true
fresh_absent a t h = (fresh_absent_then a t [] h).0

act_ground_fixes : (p : List Swap) (t : GroundTerm) (as' : List Name) → Fixes p (ground_names_then t as') → (act_ground p t ≡ t) × Fixes p as'
act_ground_fixes p unit as' h = (refl, h)
act_ground_fixes p (name a) as' h = (ap name (fixes_first p a as' h), fixes_rest p a as' h)
act_ground_fixes p (pair t u) as' h =
    let k = act_ground_fixes p t (ground_names_then u as') h in
    let l = act_ground_fixes p u as' k.1 in
    (ap₂ pair k.0 l.0, l.1)
act_ground_fixes p (app f t) as' h = let k = act_ground_fixes p t as' h in (ap (app f) k.0, k.1)
act_ground_fixes p (abs a t) as' h =
    let k = act_ground_fixes p t as' (fixes_rest p a (ground_names_then t as') h) in
    (ap₂ abs (fixes_first p a (ground_names_then t as') h) k.0, k.1)

pub act_ground_fixed : (p : List Swap) (t : GroundTerm) → ((a : Name) → has_name a (ground_names_then t []) ≡ true → act_name p a ≡ a) → act_ground p t ≡ t
act_ground_fixed p t h = (act_ground_fixes p t [] h).0
