-- One more swapping in a table of images.
use Rattle.std.proofs.Common.{◌≡◌, ℕ, Bool, true, false, if◌then◌else◌, List, [], ◌∷◌, ◌++◌, refl, sym, ap, ◌∙◌}
use Rattle.std.specs.Ordering.{is_eq}
use Rattle.std.specs.Prelude.{Option, Some, None}
use Rattle.ap_defs.specs.declared.terms.Name.{Name}
use Rattle.ap_defs.specs.declared.terms.Swap.{Swap}
use Rattle.ap_defs.specs.Permutations.{act_name, left_name, name_eq, right_name, swap_name}
use Rattle.ap_theory.proofs.PermutationLemmas.{act-append, act_sort, name_eq_same, same_name_parts, swap_left, swap_name_fixes, swap_right}
use Rattle.ap_judge.specs.Indexes.{AreIndexedImages, indexed_image, indexed_image_or, sought_name, sought_name_cmp}
use Rattle.ap_judge.proofs.IndexLemmas.{sought_name_eq}

image_as : (n a : Name) → a.sort ≡ n.sort → indexed_image_or (Some n.num) a ≡ n
image_as n a e = same_name_parts (record { sort = a.sort; num = n.num }) n e refl

pub no_images : (f : ℕ × ℕ → Option ℕ) → ((k : ℕ × ℕ) → f k ≡ None) → AreIndexedImages [] f
no_images f none a = ap (λ o. indexed_image_or o a) (none (sought_name a))

module _ (f g h : ℕ × ℕ → Option ℕ) (p : List Swap) (s : Swap) (inv : AreIndexedImages p f)
    (one : (k : ℕ × ℕ) → g k ≡ (if is_eq (sought_name_cmp (sought_name (left_name s)) k) then Some (indexed_image f (right_name s)).num else f k))
    (two : (k : ℕ × ℕ) → h k ≡ (if is_eq (sought_name_cmp (sought_name (right_name s)) k) then Some (indexed_image f (left_name s)).num else g k)) where
  second : (a : Name) (v : Bool) → name_eq a (right_name s) ≡ v → h (sought_name a) ≡ (if v then Some (indexed_image f (left_name s)).num else g (sought_name a))
  second a v e = two (sought_name a) ∙ ap (λ b. if b then Some (indexed_image f (left_name s)).num else g (sought_name a)) (sought_name_eq a (right_name s) ∙ e)

  first : (a : Name) (v : Bool) → name_eq a (left_name s) ≡ v → g (sought_name a) ≡ (if v then Some (indexed_image f (right_name s)).num else f (sought_name a))
  first a v e = one (sought_name a) ∙ ap (λ b. if b then Some (indexed_image f (right_name s)).num else f (sought_name a)) (sought_name_eq a (left_name s) ∙ e)

  -- the image of one of the two names is that of the other
  exchanged : (a b c : Name) (o : Option ℕ) → o ≡ Some (indexed_image f b).num → a ≡ c → c.sort ≡ b.sort → swap_name s c ≡ b → indexed_image_or o a ≡ act_name (p ++ s ∷ []) a
  exchanged a b c o e same sorts swapped =
      let image_sort : (indexed_image f b).sort ≡ b.sort = ap (λ (n : Name). n.sort) (inv b) ∙ act_sort p b in
      ap (λ q. indexed_image_or q a) e ∙ image_as (indexed_image f b) a (ap (λ (n : Name). n.sort) same ∙ sorts ∙ sym image_sort)
      ∙ inv b ∙ ap (act_name p) (sym (ap (swap_name s) same ∙ swapped)) ∙ sym (act-append p (s ∷ []) a)

  elsewhere : (a : Name) → h (sought_name a) ≡ f (sought_name a) → name_eq a (left_name s) ≡ false → name_eq a (right_name s) ≡ false → indexed_image h a ≡ act_name (p ++ s ∷ []) a
  elsewhere a e d r = ap (λ o. indexed_image_or o a) e ∙ inv a ∙ ap (act_name p) (sym (swap_name_fixes s a d r)) ∙ sym (act-append p (s ∷ []) a)

  pub swapped_images : AreIndexedImages (p ++ s ∷ []) h
  swapped_images a =
      elim (name_eq a (right_name s)) as (λ v. name_eq a (right_name s) ≡ v → indexed_image h a ≡ act_name (p ++ s ∷ []) a) [
        | true ↦ λ e.
            exchanged a (left_name s) (right_name s) (h (sought_name a)) (second a true e) (name_eq_same a (right_name s) e) refl
            (swap_right (left_name s) (right_name s) refl)
        | false ↦ λ e.
            elim (name_eq a (left_name s)) as (λ v. name_eq a (left_name s) ≡ v → indexed_image h a ≡ act_name (p ++ s ∷ []) a) [
              | true ↦ λ d.
                  exchanged a (right_name s) (left_name s) (h (sought_name a)) (second a false e ∙ first a true d) (name_eq_same a (left_name s) d) refl
                  (swap_left (left_name s) (right_name s) refl)
              | false ↦ λ d. elsewhere a (second a false e ∙ first a false d) d e
            ] refl
      ] refl
