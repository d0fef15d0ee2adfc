-- Sets of names by sort and then by number, and the names on which two lists of swappings differ.
use Rattle.std.proofs.Common.{◌≡◌, ◌<◌, ◌+◌, ℕ, true, false, List, [], ◌∷◌, map, length, get_or, drop, refl, sym, ap, ap₂, ◌∙◌, arith, add-one}
use Rattle.std.proofs.Math.Seq.{drop-cons}
use Rattle.std.proofs.lemmas.Bool.Decides.{nat_tests}
use Rattle.std.specs.BTreeSet.{insert_key}
use Rattle.std.specs.Ordering.{match_ordering}
use Rattle.std.specs.Prelude.{Option, Bool}
use Rattle.std.specs.declared.cmp.Ordering.{Ordering}
use Rattle.std.specs.declared.cmp.Ordering.TheVariants.{Less, Equal, Greater}
use Rattle.ap_defs.specs.Permutations.{act_name, add_name, differing, left_name, name_before, name_eq, names_of, right_name}
use Rattle.ap_defs.specs.declared.terms.Name.{Name}
use Rattle.ap_defs.specs.declared.terms.Swap.{Swap}
use Rattle.ap_perm.specs.Images.{AreImages, image_by, key_cmp, name_at}
use Rattle.ap_perm.specs.Names.{add_differing}

abbrev place_of : Name → ℕ × ℕ
place_of a = (a.sort, a.num)

less_apart : (a b : Name) → key_cmp (place_of a) (place_of b) ≡ Less → name_eq a b ≡ false
unfolding name_eq
less_apart a b h = grind (arith, nat_tests)

less_before : (a b : Name) → key_cmp (place_of a) (place_of b) ≡ Less → name_before a b ≡ true
unfolding name_before
less_before a b h = grind (arith, nat_tests)

equal_same : (a b : Name) → key_cmp (place_of a) (place_of b) ≡ Equal → name_eq a b ≡ true
unfolding name_eq
equal_same a b h = grind (arith, nat_tests)

greater_apart : (a b : Name) → key_cmp (place_of a) (place_of b) ≡ Greater → name_eq a b ≡ false
unfolding name_eq
greater_apart a b h = grind (arith, nat_tests)

greater_after : (a b : Name) → key_cmp (place_of a) (place_of b) ≡ Greater → name_before a b ≡ false
unfolding name_before
greater_after a b h = grind (arith, nat_tests)

placed : (ks rest : List (ℕ × ℕ)) (k : ℕ × ℕ) (a : Name) (o : Ordering) → map name_at rest ≡ add_name a (map name_at ks) → key_cmp (place_of a) k ≡ o
    → map name_at (match_ordering o (place_of a ∷ k ∷ ks) (k ∷ ks) (k ∷ rest)) ≡ add_name a (map name_at (k ∷ ks))
placed ks rest k a Less h e = rw (less_apart a (name_at k) e, less_before a (name_at k) e) refl
placed ks rest k a Equal h e = rw (equal_same a (name_at k) e) refl
placed ks rest k a Greater h e = rw (greater_apart a (name_at k) e, greater_after a (name_at k) e) (ap (λ cs. name_at k ∷ cs) h)

-- a set of places with one more is the set of their names with one more
added_name : (ks : List (ℕ × ℕ)) (a : Name) → map name_at (insert_key key_cmp ks (place_of a)) ≡ add_name a (map name_at ks)
added_name [] a = refl
added_name (k ∷ ks) a = placed ks (insert_key key_cmp ks (place_of a)) k a (key_cmp (place_of a) k) (added_name ks a) refl

module _ (r s : List Swap) (f g : ℕ × ℕ → Option ℕ) (a x y : Name) (h : AreImages r f) (k : AreImages s g) (l : x ≡ image_by f a) (m : y ≡ image_by g a) where
  tested : (v : Bool) → name_eq x y ≡ v → name_eq (act_name r a) (act_name s a) ≡ v
  tested v t = ap₂ name_eq (sym (l ∙ h a)) (sym (m ∙ k a)) ∙ t

  pub other_added : (ks ls : List (ℕ × ℕ)) → name_eq x y ≡ false → ls ≡ insert_key key_cmp ks (place_of a) → map name_at ls ≡ add_differing r s a (map name_at ks)
  other_added ks ls t e = rw (tested false t) (ap (map name_at) e ∙ added_name ks a)

-- the loop, from the back
pub differing_more : (p q swaps : List Swap) (i j : ℕ) (d : Swap) (old mid new : List Name) → i ≡ j + 1 → j < length swaps → old ≡ differing p q (names_of (drop i swaps))
    → mid ≡ add_differing p q (right_name (get_or swaps j d)) old → new ≡ add_differing p q (left_name (get_or swaps j d)) mid → new ≡ differing p q (names_of (drop j swaps))
differing_more p q swaps i j d old mid new e h was first second =
    let s = get_or swaps j d in
    second ∙ ap (add_differing p q (left_name s)) (first ∙ ap (add_differing p q (right_name s)) (was ∙ ap (λ n. differing p q (names_of (drop n swaps))) (e ∙ add-one j)))
    ∙ ap (λ ss. differing p q (names_of ss)) (sym (drop-cons swaps j d h))
