-- The canonical list of a permutation from the names that it moves, for each operation.
use Rattle.std.proofs.Common.{◌≡◌, not, List, [], ◌∷◌, ◌++◌, map, refl, sym, ap, ap₂, ◌∙◌}
use Rattle.ap_defs.specs.Canonical.{canonical, moved_names}
use Rattle.ap_defs.specs.Permutations.{IsSamePerm, act_name, disagreement, inverse}
use Rattle.ap_defs.specs.declared.terms.Name.{Name}
use Rattle.ap_defs.specs.declared.terms.Swap.{Swap}
use Rattle.ap_theory.proofs.CanonicalLemmas.{canonical_act, canonical_canonical, canonical_same}
use Rattle.ap_theory.proofs.DisagreementLemmas.{disagreement_same, has_disagreement, same_names}
use Rattle.ap_theory.proofs.PermutationLemmas.{name_eq_moved}
use Rattle.ap_values.specs.Flat.{Flat, kept, moved_by, moved_list, united}
use Rattle.ap_values.specs.FlatProps.{moved_same}
use Rattle.ap_values.specs.declared.flat.Moved.{Moved}
use Rattle.ap_values.proofs.FlatLemmas.{moved_ascend}
use Rattle.ap_perm.proofs.ImageLemmas.{turned_name}
use Rattle.ap_values.proofs.UnionLemmas.{kept_composed, kept_differences}

alike : (p q : List Swap) → IsSamePerm p q → (ns : List Name) → map (moved_by p) ns ≡ map (moved_by q) ns
alike p q h [] = refl
alike p q h (n ∷ ns) = ap₂ (λ (b : Name) (ms : List Moved). record { name = n; image = b.num } ∷ ms) (h n) (alike p q h ns)

same_moved : (p q : List Swap) → IsSamePerm p q → moved_list p ≡ moved_list q
same_moved p q h = alike p q h (moved_names p) ∙ ap (map (moved_by q)) (disagreement_same p [] q [] h (λ a. refl))

-- what a list of swappings moves makes its permutation
pub flat_by : (r : List Swap) (ms : List Moved) → moved_list r ≡ ms → Flat ms
flat_by r ms h = (canonical r, (canonical_canonical r, same_moved (canonical r) r (canonical_act r) ∙ h))

-- and no other one
pub viewed_by : (ms : List Moved) (f : Flat ms) (r : List Swap) → moved_list r ≡ ms → f.0 ≡ canonical r
viewed_by ms f r h = sym f.1.0 ∙ canonical_same f.0 r (moved_same f.0 r ms f.1.1 h)

pub listed_moved : (p : List Swap) (names : List Name) (ms : List Moved) → names ≡ disagreement p [] → ms ≡ map (moved_by p) names → moved_list p ≡ ms
listed_moved p names ms h k = sym (k ∙ ap (map (moved_by p)) h)

moved_inverse : (p : List Swap) → moved_names p ≡ moved_names (inverse p)
moved_inverse p =
    same_names (moved_names p) (moved_names (inverse p)) (moved_ascend p) (moved_ascend (inverse p))
    (λ c. has_disagreement p [] c ∙ ap not (turned_name (act_name p c) c ∙ name_eq_moved p c c) ∙ sym (has_disagreement (inverse p) [] c))

pub inverse_moved : (p : List Swap) (names : List Name) (ms : List Moved) → names ≡ moved_names p → ms ≡ map (moved_by (inverse p)) names → moved_list (inverse p) ≡ ms
inverse_moved p names ms h k = sym (k ∙ ap (map (moved_by (inverse p))) (h ∙ moved_inverse p))

pub composed_moved : (p q : List Swap) (names : List Name) (ms : List Moved) → names ≡ united (moved_names p) (moved_names q)
    → ms ≡ map (moved_by (q ++ p)) (kept (q ++ p) [] names) → moved_list (q ++ p) ≡ ms
composed_moved p q names ms h k = sym (k ∙ ap (λ ns. map (moved_by (q ++ p)) (kept (q ++ p) [] ns)) h ∙ ap (map (moved_by (q ++ p))) (kept_composed p q))

pub all_differences : (p q : List Swap) (names picked : List Name) → names ≡ united (moved_names p) (moved_names q) → picked ≡ kept p q names → picked ≡ disagreement p q
all_differences p q names picked h k = k ∙ ap (kept p q) h ∙ kept_differences p q

pub one_viewed : (p q : List Swap) → canonical p ≡ p → canonical q ≡ q → IsSamePerm p q → p ≡ q
one_viewed p q h k i = sym h ∙ canonical_same p q i ∙ k

pub still_canonical : (ms : List Moved) (f : Flat ms) (p : List Swap) → f.0 ≡ p → canonical p ≡ p
still_canonical ms f p e = ap canonical (sym e) ∙ f.1.0 ∙ e
