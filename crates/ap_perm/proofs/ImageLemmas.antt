-- One more swapping in a table of images, and the names of a table.
use Rattle.std.proofs.Common.{◌≡◌, ◌<◌, ◌+◌, ℕ, Bool, true, false, ◌==◌, ◌&&◌, ◌||◌, if◌then◌else◌, List, [], ◌∷◌, ◌++◌, map, length, get_or, take, drop, refl, sym, ap, ap₂, ◌∙◌, arith, add-one}
use Rattle.std.proofs.Math.Seq.{drop-cons, take-suc}
use Rattle.std.proofs.lemmas.Bool.Decides.{nat_tests}
use Rattle.std.specs.Map.{lookup}
use Rattle.std.specs.Ordering.{is_eq, nat_cmp, ordering_then}
use Rattle.std.specs.declared.cmp.Ordering.{Ordering}
use Rattle.std.specs.declared.cmp.Ordering.TheVariants.{Less, Equal, Greater}
use Rattle.std.specs.Prelude.{Option, Some, None, is_some}
use Rattle.ap_defs.specs.declared.terms.Name.{Name}
use Rattle.ap_defs.specs.declared.terms.Swap.{Swap}
use Rattle.ap_defs.specs.Permutations.{act_name, has_name, inverse, left_name, name_eq, right_name, swap_name}
use Rattle.ap_theory.proofs.PermutationLemmas.{act-append, act_inverse, act_sort, act_swap, name_eq_same, same_name_parts, swap_left, swap_name_fixes, swap_right}
use Rattle.ap_perm.specs.Images.{AreImages, image_by, image_or, key_cmp, key_of, name_of}

at_number : (k x : ℕ) → is_eq (nat_cmp k x) ≡ (k == x)
at_number k x = grind (arith, nat_tests)

turned : (a b : ℕ) → (a == b) ≡ (b == a)
turned a b = grind (arith, nat_tests)

eq_then : (a b : Ordering) → is_eq (ordering_then a b) ≡ (is_eq a && is_eq b)
eq_then Less b = refl
eq_then Equal b = refl
eq_then Greater b = refl

and_turned : (a b : Bool) → (a && b) ≡ (b && a)
and_turned true true = refl
and_turned true false = refl
and_turned false true = refl
and_turned false false = refl

pub key_eq : (a b : Name) → is_eq (key_cmp (key_of b) (key_of a)) ≡ name_eq a b
unfolding name_eq
key_eq a b =
    eq_then (nat_cmp b.num a.num) (nat_cmp b.sort a.sort)
    ∙ ap₂ ◌&&◌ (at_number b.num a.num ∙ turned b.num a.num) (at_number b.sort a.sort ∙ turned b.sort a.sort)
    ∙ and_turned (a.num == b.num) (a.sort == b.sort)

image_as : (n a : Name) → a.sort ≡ n.sort → image_or (Some n.num) a ≡ n
image_as n a e = same_name_parts (record { sort = a.sort; num = n.num }) n e refl

pub no_images : (f : ℕ × ℕ → Option ℕ) → ((k : ℕ × ℕ) → f k ≡ None) → AreImages [] f
no_images f none a = ap (λ o. image_or o a) (none (key_of a))

module _ (f g h : ℕ × ℕ → Option ℕ) (p : List Swap) (s : Swap) (inv : AreImages p f)
    (one : (k : ℕ × ℕ) → g k ≡ (if is_eq (key_cmp (key_of (left_name s)) k) then Some (image_by f (right_name s)).num else f k))
    (two : (k : ℕ × ℕ) → h k ≡ (if is_eq (key_cmp (key_of (right_name s)) k) then Some (image_by f (left_name s)).num else g k)) where
  second : (a : Name) (v : Bool) → name_eq a (right_name s) ≡ v → h (key_of a) ≡ (if v then Some (image_by f (left_name s)).num else g (key_of a))
  second a v e = two (key_of a) ∙ ap (λ b. if b then Some (image_by f (left_name s)).num else g (key_of a)) (key_eq a (right_name s) ∙ e)

  first : (a : Name) (v : Bool) → name_eq a (left_name s) ≡ v → g (key_of a) ≡ (if v then Some (image_by f (right_name s)).num else f (key_of a))
  first a v e = one (key_of a) ∙ ap (λ b. if b then Some (image_by f (right_name s)).num else f (key_of a)) (key_eq a (left_name s) ∙ e)

  -- the image of one of the two names is that of the other
  exchanged : (a b c : Name) (o : Option ℕ) → o ≡ Some (image_by f b).num → a ≡ c → c.sort ≡ b.sort → swap_name s c ≡ b → image_or o a ≡ act_name (p ++ s ∷ []) a
  exchanged a b c o e same sorts swapped =
      let image_sort : (image_by f b).sort ≡ b.sort = ap (λ (n : Name). n.sort) (inv b) ∙ act_sort p b in
      ap (λ q. image_or q a) e ∙ image_as (image_by f b) a (ap (λ (n : Name). n.sort) same ∙ sorts ∙ sym image_sort)
      ∙ inv b ∙ ap (act_name p) (sym (ap (swap_name s) same ∙ swapped)) ∙ sym (act-append p (s ∷ []) a)

  elsewhere : (a : Name) → h (key_of a) ≡ f (key_of a) → name_eq a (left_name s) ≡ false → name_eq a (right_name s) ≡ false → image_by h a ≡ act_name (p ++ s ∷ []) a
  elsewhere a e d r = ap (λ o. image_or o a) e ∙ inv a ∙ ap (act_name p) (sym (swap_name_fixes s a d r)) ∙ sym (act-append p (s ∷ []) a)

  pub swapped_images : AreImages (p ++ s ∷ []) h
  swapped_images a =
      elim (name_eq a (right_name s)) as (λ v. name_eq a (right_name s) ≡ v → image_by h a ≡ act_name (p ++ s ∷ []) a) [
        | true ↦ λ e.
            exchanged a (left_name s) (right_name s) (h (key_of a)) (second a true e) (name_eq_same a (right_name s) e) refl
            (swap_right (left_name s) (right_name s) refl)
        | false ↦ λ e.
            elim (name_eq a (left_name s)) as (λ v. name_eq a (left_name s) ≡ v → image_by h a ≡ act_name (p ++ s ∷ []) a) [
              | true ↦ λ d.
                  exchanged a (right_name s) (left_name s) (h (key_of a)) (second a false e ∙ first a true d) (name_eq_same a (left_name s) d) refl
                  (swap_left (left_name s) (right_name s) refl)
              | false ↦ λ d. elsewhere a (second a false e ∙ first a false d) d e
            ] refl
      ] refl

-- the loops over a list, from its front, and from its back over its inverse
pub images_so_far : (p : List Swap) (i : ℕ) (d : Swap) (f : ℕ × ℕ → Option ℕ) → i < length p → AreImages (take i p ++ get_or p i d ∷ []) f → AreImages (take (i + 1) p) f
images_so_far p i d f h inv a = inv a ∙ ap (λ q. act_name q a) (sym (take-suc p i d h) ∙ ap (λ n. take n p) (sym (add-one i)))

pub origins_so_far : (p : List Swap) (i j : ℕ) (d : Swap) (f : ℕ × ℕ → Option ℕ) → i ≡ j + 1 → j < length p → AreImages (inverse (drop i p) ++ get_or p j d ∷ []) f → AreImages (inverse (drop j p)) f
origins_so_far p i j d f e h inv a =
    inv a ∙ ap (λ q. act_name q a) (ap (λ n. inverse (get_or p j d ∷ drop n p)) (e ∙ add-one j) ∙ ap inverse (sym (drop-cons p j d h)))

-- A swapping after a permutation is one before it, of the names of which it makes those.
pub carried_back : (p : List Swap) (s t : Swap) (a : Name) → left_name t ≡ act_name (inverse p) (left_name s) → right_name t ≡ act_name (inverse p) (right_name s)
    → act_name (p ++ t ∷ []) a ≡ act_name (s ∷ p) a
carried_back p s t a l r =
    let first : act_name p (left_name t) ≡ left_name s = ap (act_name p) l ∙ act_inverse p (left_name s) in
    let second : act_name p (right_name t) ≡ right_name s = ap (act_name p) r ∙ act_inverse p (right_name s) in
    act-append p (t ∷ []) a ∙ act_swap p (left_name t) (right_name t) a refl
    ∙ ap₂ (λ x y. swap_name (record { sort = x.sort; left = x.num; right = y.num }) (act_name p a)) first second

pub images_in_front : (p : List Swap) (s : Swap) (l r : Name) (f g : ℕ × ℕ → Option ℕ) → AreImages (inverse p) g → l ≡ image_by g (left_name s) → r ≡ image_by g (right_name s)
    → AreImages (p ++ record { sort = s.sort; left = l.num; right = r.num } ∷ []) f → AreImages (s ∷ p) f
images_in_front p s l r f g back hl hr inv a =
    inv a ∙ carried_back p s (record { sort = s.sort; left = l.num; right = r.num }) a (origin (left_name s) l hl) (origin (right_name s) r hr)
  where
    origin : (b n : Name) → n ≡ image_by g b → record { sort = b.sort; num = n.num } ≡ act_name (inverse p) b
    origin b n h =
        let same : n ≡ act_name (inverse p) b = h ∙ back b in
        same_name_parts (record { sort = b.sort; num = n.num }) n (sym (ap (λ (m : Name). m.sort) same ∙ act_sort (inverse p) b)) refl ∙ same

pub turned_name : (a b : Name) → name_eq a b ≡ name_eq b a
unfolding name_eq
turned_name a b = ap₂ ◌&&◌ (turned a.sort b.sort) (turned a.num b.num)

-- A name is found where it stands in the table.
pub found_named : (es : List ((ℕ × ℕ) × ℕ)) (a : Name) → is_some (lookup (λ k. is_eq (key_cmp (key_of a) k)) es) ≡ has_name a (map name_of (map (λ e. e.0) es))
found_named [] a = refl
found_named (e ∷ es) a =
    let here : is_eq (key_cmp (key_of a) e.0) ≡ name_eq a (name_of e.0) = key_eq (name_of e.0) a ∙ turned_name (name_of e.0) a in
    ap (λ b. is_some (if b then Some e.1 else lookup (λ k. is_eq (key_cmp (key_of a) k)) es)) here
    ∙ elim (name_eq a (name_of e.0)) as (λ v. is_some (if v then Some e.1 else lookup (λ k. is_eq (key_cmp (key_of a) k)) es) ≡ (v || has_name a (map name_of (map (λ e. e.0) es)))) [
      | true ↦ refl
      | false ↦ found_named es a
    ]
