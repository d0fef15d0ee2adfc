-- That names and the numbers of their images are those of a permutation is a fact with one proof at most.
use Rattle.std.proofs.Common.{◌≡◌, true, List, [], ◌∷◌, map, refl, sym, ap, ◌∙◌, inl, inr, true≢false}
use mathlib.Core.HLevel.{Σ_prop_path}
use Rattle.std.proofs.Props.{props}
use Rattle.std.specs.Prelude.{if◌then◌else◌}
use Rattle.ap_defs.specs.Canonical.{canonical, moved_names}
use Rattle.ap_defs.specs.Permutations.{IsSamePerm, act_name, has_name, name_eq}
use Rattle.ap_defs.specs.declared.terms.Name.{Name}
use Rattle.ap_defs.specs.declared.terms.Swap.{Swap}
use Rattle.ap_theory.proofs.BooleanLemmas.{or_right}
use Rattle.ap_theory.proofs.CanonicalLemmas.{canonical_same}
use Rattle.ap_theory.proofs.DisagreementLemmas.{differing_disagree}
use Rattle.ap_theory.proofs.PermutationLemmas.{act_sort, name_decided, name_tells, same_name_parts}
use Rattle.ap_values.specs.Flat.{Flat, moved_by, moved_list}
use Rattle.ap_values.specs.declared.flat.Moved.{Moved}

-- what a list of moved names makes of a name
abbrev image_at : List Moved → Name → Name
image_at [] a = a
image_at (m ∷ ms) a = if name_eq a m.name then record { sort = a.sort; num = m.image } else image_at ms a

pub named_image : (p : List Swap) (a : Name) → record { sort = a.sort; num = (act_name p a).num } ≡ act_name p a
named_image p a = same_name_parts (record { sort = a.sort; num = (act_name p a).num }) (act_name p a) (sym (act_sort p a)) refl

image_of : (p : List Swap) (a : Name) (ns : List Name) → has_name a ns ≡ true → image_at (map (moved_by p) ns) a ≡ act_name p a
image_of p a [] h = absurd (true≢false (sym h))
image_of p a (n ∷ ns) h =
    elim (name_tells a n) [
      | inl w ↦ rw w.0 (ap (λ (b : Name). record { sort = a.sort; num = (act_name p b).num }) (sym w.1) ∙ named_image p a)
      | inr w ↦ rw w.0 (image_of p a ns (or_right (name_eq a n) (has_name a ns) w.0 h))
    ]

unmoved : (p : List Swap) (a : Name) (ns : List Name) → act_name p a ≡ a → image_at (map (moved_by p) ns) a ≡ a
unmoved p a [] h = refl
unmoved p a (n ∷ ns) h =
    elim (name_tells a n) [
      | inl w ↦ rw w.0 (ap (λ (b : Name). record { sort = a.sort; num = (act_name p b).num }) (sym w.1) ∙ named_image p a ∙ h)
      | inr w ↦ rw w.0 (unmoved p a ns h)
    ]

image_moved : (p : List Swap) (a : Name) → image_at (moved_list p) a ≡ act_name p a
image_moved p a =
    elim (name_decided (act_name p a) a) [
      | inl e ↦ unmoved p a (moved_names p) e ∙ sym e
      | inr n ↦ image_of p a (moved_names p) (differing_disagree p [] a n)
    ]

-- permutations that move the same names alike are equal
pub moved_same : (p q : List Swap) (ms : List Moved) → moved_list p ≡ ms → moved_list q ≡ ms → IsSamePerm p q
moved_same p q ms h k a = sym (image_moved p a) ∙ ap (λ ls. image_at ls a) (h ∙ sym k) ∙ image_moved q a

pub flat_prop : (ms : List Moved) → IsProp (Flat ms)
flat_prop ms u v =
    Σ_prop_path {B = λ p. (canonical p ≡ p) × (moved_list p ≡ ms)} (λ p. hlevel props) {u = u} {v = v}
    (sym u.1.0 ∙ canonical_same u.0 v.0 (moved_same u.0 v.0 ms u.1.1 v.1.1) ∙ v.1.0)
