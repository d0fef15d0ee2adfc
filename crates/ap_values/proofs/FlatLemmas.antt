-- Names that a permutation moves, beside the numbers of their images: looked for, and as tables.
use Rattle.std.proofs.Common.{subst, ◌≡◌, ◌≢◌, ◌<◌, ◌≤◌, ◌+◌, ℕ, zero, suc, Bool, true, false, ◌||◌, if◌then◌else◌, List, [], ◌∷◌, ◌++◌, map, length, get_or, take, drop, refl, sym, ap, ap₂, ◌∙◌, inl, inr, arith, true≢false, add-one, append_assoc, append-nil}
use Rattle.std.proofs.Math.Seq.{drop-cons, take-suc, take_all}
use Rattle.std.proofs.lemmas.Bool.Decides.{nat_tests}
use Rattle.std.proofs.lemmas.List.{drop_all, get_or-map, length-map, map-append, take-append-drop}
use Rattle.std.specs.Ordering.{is_eq}
use Rattle.std.specs.Prelude.{Option, Some, None}
use Rattle.ap_defs.specs.Canonical.{moved_names}
use Rattle.ap_defs.specs.Permutations.{act_name, add_name, differing, disagreement, has_name, inverse, name_before, name_eq, names_of}
use Rattle.ap_defs.specs.declared.terms.Name.{Name}
use Rattle.ap_defs.specs.declared.terms.Swap.{Swap}
use Rattle.ap_theory.proofs.BooleanLemmas.{or_if_right}
use Rattle.ap_theory.proofs.DisagreementLemmas.{differing_disagree, has_front, has_name-append, has_name_has}
use Rattle.ap_theory.proofs.OrderedLemmas.{Above, IsAscending, IsOrder, add, ascending_add}
use Rattle.ap_theory.proofs.PermutationLemmas.{act_inverse, inverse_act, name_decided, name_eq_act, name_eq_itself, name_eq_moved, name_eq_same, name_tells}
use Rattle.ap_values.specs.Flat.{image_num, moved_by, moved_list}
use Rattle.ap_values.specs.FlatProps.{named_image}
use Rattle.ap_perm.specs.Images.{AreImages, image_by, image_or, key_cmp, key_of}
use Rattle.ap_values.specs.declared.flat.Moved.{Moved}
use Rattle.ap_perm.proofs.ImageLemmas.{key_eq, turned_name}

-- NAMES BY SORT AND NUMBER

pub by_name : IsOrder name_eq name_before
unfolding name_before name_eq
by_name = record {
  tells = name_eq_same;
  itself = name_eq_itself;
  trans = λ a b c h k. grind (arith, nat_tests);
  irreflexive = λ a h. grind (arith, nat_tests);
  total = λ a b h k. grind (arith, nat_tests);
}

pub before_apart : (a b : Name) → name_before a b ≡ true → name_eq a b ≡ false
unfolding name_before name_eq
before_apart a b h = grind (arith, nat_tests)

pub after_apart : (a b : Name) → name_before a b ≡ true → name_eq b a ≡ false
after_apart a b h = turned_name b a ∙ before_apart a b h

pub not_after : (a b : Name) → name_before a b ≡ true → name_before b a ≡ false
unfolding name_before
not_after a b h = grind (arith, nat_tests)

pub neither_before : (a b : Name) → name_before a b ≡ false → name_before b a ≡ false → a ≡ b
neither_before a b h k =
    elim (name_tells a b) [
      | inl w ↦ w.1
      | inr w ↦ absurd (true≢false (sym (by_name.total a b w.0 h) ∙ k))
    ]

abbrev pub Ascending : List Name → Type 0
Ascending ns = IsAscending name_eq name_before ns

abbrev pub IsAbove : Name → List Name → Type 0
IsAbove a ns = Above name_eq name_before a ns

pub above_name : (a c : Name) (ns : List Name) → IsAbove a ns → has_name c ns ≡ true → name_before a c ≡ true
above_name a c ns h m = h c (sym (has_name_has c ns) ∙ m)

add_name_add : (a : Name) (bs : List Name) → add_name a bs ≡ add name_eq name_before a bs
add_name_add a [] = refl
add_name_add a (b ∷ bs) = ap (λ cs. if name_eq a b then (b ∷ bs) else (if name_before a b then (a ∷ b ∷ bs) else (b ∷ cs))) (add_name_add a bs)

pub add_ascends : (a : Name) (bs : List Name) → Ascending bs → Ascending (add_name a bs)
add_ascends a bs h = subst Ascending (sym (add_name_add a bs)) (ascending_add name_eq name_before by_name a bs h)

differing_ascends : (p q : List Swap) (cs : List Name) → Ascending (differing p q cs)
differing_ascends p q [] = tt
differing_ascends p q (c ∷ cs) =
    elim (name_eq (act_name p c) (act_name q c)) as (λ v. Ascending (if v then differing p q cs else add_name c (differing p q cs))) [
      | true ↦ differing_ascends p q cs
      | false ↦ add_ascends c (differing p q cs) (differing_ascends p q cs)
    ]

pub disagreement_ascends : (p q : List Swap) → Ascending (disagreement p q)
disagreement_ascends p q = differing_ascends p q (names_of p ++ names_of q)

pub moved_ascend : (p : List Swap) → Ascending (moved_names p)
moved_ascend p = disagreement_ascends p []

has_at : (ns : List Name) (m : ℕ) (d : Name) → m < length ns → has_name (get_or ns m d) ns ≡ true
has_at [] m d l = absurd (omega (arith, l))
has_at (n ∷ ns) zero d l = has_front n ns
has_at (n ∷ ns) (suc m) d l = or_if_right (name_eq (get_or ns m d) n) (has_name (get_or ns m d) ns) (has_at ns m d (omega (arith, l)))

-- none of those up to one that comes before a name is the name
up_to : (ns : List Name) (m : ℕ) (d a : Name) → Ascending ns → m < length ns → name_before (get_or ns m d) a ≡ true → has_name a (take (suc m) ns) ≡ false
up_to [] m d a o l h = absurd (omega (arith, l))
up_to (n ∷ ns) zero d a o l h = ap (λ v. v || false) (after_apart n a h)
up_to (n ∷ ns) (suc m) d a o l h =
    let before = by_name.trans n (get_or ns m d) a (above_name n (get_or ns m d) ns o.0 (has_at ns m d (omega (arith, l)))) h in
    ap₂ ◌||◌ (after_apart n a before) (up_to ns m d a o.1 (omega (arith, l)) h)

-- none of those from one on that comes after a name is the name
from_on : (ns : List Name) (m : ℕ) (d a : Name) → Ascending ns → m < length ns → name_before a (get_or ns m d) ≡ true → has_name a (drop m ns) ≡ false
from_on [] m d a o l h = absurd (omega (arith, l))
from_on (n ∷ ns) zero d a o l h = ap₂ ◌||◌ (before_apart a n h) (none (has_name a ns) refl)
  where
    none : (v : Bool) → has_name a ns ≡ v → has_name a ns ≡ false
    none true e = absurd (by_name.irreflexive a (by_name.trans a n a h (above_name n a ns o.0 e)))
    none false e = e
from_on (n ∷ ns) (suc m) d a o l h = from_on ns m d a o.1 (omega (arith, l)) h

-- one further name
pub has_further : (c : Name) (ns : List Name) (i : ℕ) (d : Name) → i < length ns → has_name c (take (i + 1) ns) ≡ (has_name c (take i ns) || name_eq c (get_or ns i d))
has_further c ns i d l =
    ap (λ n. has_name c (take n ns)) (add-one i) ∙ ap (has_name c) (take-suc ns i d l)
    ∙ has_one c (take i ns) (get_or ns i d)
  where
    or_none : (v : Bool) → (v || false) ≡ v
    or_none true = refl
    or_none false = refl

    has_one : (b : Name) (bs : List Name) (n : Name) → has_name b (bs ++ n ∷ []) ≡ (has_name b bs || name_eq b n)
    has_one b bs n = has_name-append b bs (n ∷ []) ∙ ap (λ v. has_name b bs || v) (or_none (name_eq b n))

pub fixed : (p : List Swap) (a : Name) → has_name a (moved_names p) ≡ false → act_name p a ≡ a
fixed p a h = elim (name_decided (act_name p a) a) [ inl e ↦ e | inr n ↦ absurd (true≢false (sym (differing_disagree p [] a n) ∙ h)) ]

-- ONE MOVED NAME

module _ (p : List Swap) (ms : List Moved) (same : moved_list p ≡ ms) where
  pub as_many : length ms ≡ length (moved_names p)
  as_many = ap (λ (ls : List Moved). length ls) (sym same) ∙ length-map (moved_names p) (moved_by p)

  pub moved_at : (m : ℕ) (d : Moved) → m < length ms → get_or ms m d ≡ moved_by p (get_or (moved_names p) m d.name)
  moved_at m d l =
      let k : length ms ≡ length (moved_names p) = as_many in
      ap (λ (ls : List Moved). get_or ls m d) (sym same) ∙ get_or-map (moved_by p) (moved_names p) m d.name d (omega (arith, l, k))

  pub name_there : (m : ℕ) (d : Moved) → m < length ms → (get_or ms m d).name ≡ get_or (moved_names p) m d.name
  name_there m d l = ap (λ (e : Moved). e.name) (moved_at m d l)

  pub image_there : (m : ℕ) (d : Moved) → m < length ms → record { sort = (get_or ms m d).name.sort; num = (get_or ms m d).image } ≡ act_name p (get_or ms m d).name
  image_there m d l =
      ap (λ (e : Moved). record { sort = e.name.sort; num = e.image }) (moved_at m d l)
      ∙ named_image p (get_or (moved_names p) m d.name) ∙ ap (act_name p) (sym (name_there m d l))

-- HALVING

-- the name is looked for among those between two places
abbrev pub IsBetween : List Moved → Name → ℕ → ℕ → Type 0
IsBetween ms a low high =
    (p : List Swap) → moved_list p ≡ ms → (has_name a (take low (moved_names p)) ≡ false) × (has_name a (drop high (moved_names p)) ≡ false)

pub between_all : (ms : List Moved) (a : Name) (n : ℕ) → n ≡ length ms → IsBetween ms a 0 n
between_all ms a n h p same =
    let k = as_many p ms same in
    (refl, ap (has_name a) (drop_all n (moved_names p) (omega (arith, h, k))))

module _ (ms : List Moved) (a : Name) (low high m : ℕ) (d : Moved) (l : m < length ms) where
  pub between_above : IsBetween ms a low high → name_before (get_or ms m d).name a ≡ true → IsBetween ms a (m + 1) high
  between_above inv h p same =
      let k = as_many p ms same in
      let there : name_before (get_or (moved_names p) m d.name) a ≡ true = ap (λ n. name_before n a) (sym (name_there p ms same m d l)) ∙ h in
      (ap (λ n. has_name a (take n (moved_names p))) (add-one m) ∙ up_to (moved_names p) m d.name a (moved_ascend p) (omega (arith, l, k)) there, (inv p same).1)

  pub between_below : IsBetween ms a low high → name_eq a (get_or ms m d).name ≡ false → name_before (get_or ms m d).name a ≡ false → IsBetween ms a low m
  between_below inv e h p same =
      let k = as_many p ms same in
      let before : name_before a (get_or ms m d).name ≡ true = by_name.total (get_or ms m d).name a (turned_name (get_or ms m d).name a ∙ e) h in
      let there : name_before a (get_or (moved_names p) m d.name) ≡ true = ap (name_before a) (sym (name_there p ms same m d l)) ∙ before in
      ((inv p same).0, from_on (moved_names p) m d.name a (moved_ascend p) (omega (arith, l, k)) there)

  pub found_there : name_eq a (get_or ms m d).name ≡ true → (p : List Swap) → moved_list p ≡ ms → record { sort = a.sort; num = (get_or ms m d).image } ≡ act_name p a
  found_there e p same =
      let is : a ≡ (get_or ms m d).name = name_eq_same a (get_or ms m d).name e in
      ap (λ (b : Name). record { sort = b.sort; num = (get_or ms m d).image }) is ∙ image_there p ms same m d l ∙ ap (act_name p) (sym is)

pub found_nowhere : (ms : List Moved) (a : Name) (low high : ℕ) → low ≡ high → IsBetween ms a low high → (p : List Swap) → moved_list p ≡ ms → a ≡ act_name p a
found_nowhere ms a low high e inv p same =
    let both : has_name a (take low (moved_names p) ++ drop low (moved_names p)) ≡ false =
    has_name-append a (take low (moved_names p)) (drop low (moved_names p)) ∙ ap₂ ◌||◌ (inv p same).0 (ap (λ n. has_name a (drop n (moved_names p))) e ∙ (inv p same).1) in
    sym (fixed p a (ap (has_name a) (sym (take-append-drop low (moved_names p))) ∙ both))

-- THE NAME OF AN IMAGE

-- none of the first so many has the name as its image
abbrev pub IsUnseen : List Moved → Name → ℕ → Type 0
IsUnseen ms a i = (p : List Swap) → moved_list p ≡ ms → has_name (act_name (inverse p) a) (take i (moved_names p)) ≡ false

pub unseen_first : (ms : List Moved) (a : Name) → IsUnseen ms a 0
unseen_first ms a p same = refl

module _ (ms : List Moved) (a : Name) (i : ℕ) (d : Moved) (l : i < length ms) where
  pub unseen_further : IsUnseen ms a i → name_eq (record { sort = (get_or ms i d).name.sort; num = (get_or ms i d).image }) a ≡ false → IsUnseen ms a (i + 1)
  unseen_further inv h p same =
      let k = as_many p ms same in
      let n = get_or (moved_names p) i d.name in
      let other : name_eq (act_name (inverse p) a) n ≡ false =
      sym (name_eq_moved p a n) ∙ turned_name a (act_name p n)
      ∙ ap (λ b. name_eq b a) (ap (act_name p) (sym (name_there p ms same i d l)) ∙ sym (image_there p ms same i d l)) ∙ h in
      has_further (act_name (inverse p) a) (moved_names p) i d.name (omega (arith, l, k)) ∙ ap₂ ◌||◌ (inv p same) other

  pub seen_there : name_eq (record { sort = (get_or ms i d).name.sort; num = (get_or ms i d).image }) a ≡ true
      → (p : List Swap) → moved_list p ≡ ms → (get_or ms i d).name ≡ act_name (inverse p) a
  seen_there h p same =
      sym (inverse_act p (get_or ms i d).name) ∙ ap (act_name (inverse p)) (sym (image_there p ms same i d l) ∙ name_eq_same _ a h)

pub seen_nowhere : (ms : List Moved) (a : Name) (i : ℕ) → length ms ≤ i → IsUnseen ms a i → (p : List Swap) → moved_list p ≡ ms → a ≡ act_name (inverse p) a
seen_nowhere ms a i h inv p same =
    let k = as_many p ms same in
    let none : has_name (act_name (inverse p) a) (moved_names p) ≡ false = ap (has_name (act_name (inverse p) a)) (sym (take_all i (moved_names p) (omega (arith, h, k)))) ∙ inv p same in
    sym (act_inverse p a) ∙ fixed p (act_name (inverse p) a) none

-- TABLES

-- the table has the images of these names
abbrev pub IsTold : List Swap → List Name → (ℕ × ℕ → Option ℕ) → Type 0
IsTold r ks f = (a : Name) → image_by f a ≡ (if has_name a ks then act_name r a else a)

pub told_further : (r : List Swap) (ks : List Name) (f g : ℕ × ℕ → Option ℕ) (k : Name) (v : ℕ) → IsTold r ks f
    → ((key : ℕ × ℕ) → g key ≡ (if is_eq (key_cmp (key_of k) key) then Some v else f key)) → v ≡ (act_name r k).num → IsTold r (ks ++ k ∷ []) g
told_further r ks f g k v told one e a =
    ap (λ o. image_or o a) (one (key_of a) ∙ ap (λ b. if b then Some v else f (key_of a)) (key_eq a k))
    ∙ elim (name_tells a k) [
      | inl w ↦ rw (w.0, ends w.0)
          (ap (λ n. record { sort = a.sort; num = n }) (e ∙ ap (λ b. (act_name r b).num) (sym w.1)) ∙ named_image r a)
      | inr w ↦ rw (w.0, goes_on w.0) (told a)
    ]
  where
    or_true : (b : Bool) → (b || true) ≡ true
    or_true true = refl
    or_true false = refl

    or_none : (b : Bool) → (b || false) ≡ b
    or_none true = refl
    or_none false = refl

    ends : name_eq a k ≡ true → has_name a (ks ++ k ∷ []) ≡ true
    ends h = has_name-append a ks (k ∷ []) ∙ ap (λ b. has_name a ks || (b || false)) h ∙ or_true (has_name a ks)

    goes_on : name_eq a k ≡ false → has_name a (ks ++ k ∷ []) ≡ has_name a ks
    goes_on h = has_name-append a ks (k ∷ []) ∙ ap (λ b. has_name a ks || (b || false)) h ∙ or_none (has_name a ks)

pub told_all : (r : List Swap) (ks : List Name) (f : ℕ × ℕ → Option ℕ) → IsTold r ks f → ((c : Name) → act_name r c ≢ c → has_name c ks ≡ true) → AreImages r f
told_all r ks f told covers a =
    told a
    ∙ elim (name_decided (act_name r a) a) [
      | inl e ↦ ap (λ b. if has_name a ks then b else a) e ∙ either (has_name a ks) ∙ sym e
      | inr n ↦ ap (λ v. if v then act_name r a else a) (covers a n)
    ]
  where
    either : (v : Bool) → (if v then a else a) ≡ a
    either true = refl
    either false = refl

pub told_none : (r : List Swap) (f : ℕ × ℕ → Option ℕ) → ((k : ℕ × ℕ) → f k ≡ None) → IsTold r [] f
told_none r f none a = ap (λ o. image_or o a) (none (key_of a))

has_map : (p : List Swap) (c : Name) (ns : List Name) → has_name (act_name p c) (map (act_name p) ns) ≡ has_name c ns
has_map p c [] = refl
has_map p c (n ∷ ns) = ap₂ ◌||◌ (name_eq_act p c n) (has_map p c ns)

-- the loops over the moved names
module _ (ms : List Moved) (i : ℕ) (d : Moved) (f g : ℕ × ℕ → Option ℕ) (l : i < length ms) (p : List Swap) (same : moved_list p ≡ ms) where
  abbrev ns : List Name
  ns = moved_names p

  abbrev n : Name
  n = get_or ns i d.name

  room : i < length ns
  room = let k = as_many p ms same in omega (arith, l, k)

  further : take (i + 1) ns ≡ take i ns ++ n ∷ []
  further = ap (λ m. take m ns) (add-one i) ∙ take-suc ns i d.name room

  pub images_told : IsTold p (take i ns) f → ((key : ℕ × ℕ) → g key ≡ (if is_eq (key_cmp (key_of (get_or ms i d).name) key) then Some (get_or ms i d).image else f key)) → IsTold p (take (i + 1) ns) g
  images_told told one =
      subst (λ ks. IsTold p ks g) (sym further)
      (told_further p (take i ns) f g n (image_num p n) told
      (λ key. one key ∙ ap (λ (e : Moved). if is_eq (key_cmp (key_of e.name) key) then Some e.image else f key) (moved_at p ms same i d l)) refl)

  pub origins_told : IsTold (inverse p) (map (act_name p) (take i ns)) f
      → ((key : ℕ × ℕ) → g key ≡ (if is_eq (key_cmp ((get_or ms i d).image, (get_or ms i d).name.sort) key) then Some (get_or ms i d).name.num else f key))
      → IsTold (inverse p) (map (act_name p) (take (i + 1) ns)) g
  origins_told told one =
      subst (λ ks. IsTold (inverse p) ks g) (sym (ap (map (act_name p)) further ∙ map-append (act_name p) (take i ns) (n ∷ [])))
      (told_further (inverse p) (map (act_name p) (take i ns)) f g (act_name p n) n.num told
      (λ key. one key ∙ ap (λ (e : Moved). if is_eq (key_cmp (e.image, e.name.sort) key) then Some e.name.num else f key) (moved_at p ms same i d l)
      ∙ ap (λ (b : Name). if is_eq (key_cmp (key_of b) key) then Some n.num else f key) (named_image p n)) (ap (λ (b : Name). b.num) (sym (inverse_act p n))))

module _ (ms : List Moved) (i : ℕ) (f : ℕ × ℕ → Option ℕ) (end : length ms ≤ i) (p : List Swap) (same : moved_list p ≡ ms) where
  whole : take i (moved_names p) ≡ moved_names p
  whole = let k = as_many p ms same in take_all i (moved_names p) (omega (arith, end, k))

  pub all_images : IsTold p (take i (moved_names p)) f → AreImages p f
  all_images told = told_all p (moved_names p) f (subst (λ ks. IsTold p ks f) whole told) (λ c m. differing_disagree p [] c m)

  pub all_origins : IsTold (inverse p) (map (act_name p) (take i (moved_names p))) f → AreImages (inverse p) f
  all_origins told =
      told_all (inverse p) (map (act_name p) (moved_names p)) f (subst (λ ks. IsTold (inverse p) (map (act_name p) ks) f) whole told)
      (λ c m.
      let b = act_name (inverse p) c in
      let moves : act_name p b ≢ b = λ e. m (sym e ∙ act_inverse p c) in
      ap (λ x. has_name x (map (act_name p) (moved_names p))) (sym (act_inverse p c)) ∙ has_map p b (moved_names p) ∙ differing_disagree p [] b moves)

module _ (ms : List Moved) (i : ℕ) (d : Moved) (p : List Swap) (old new : List Name) (l : i < length ms) (same : moved_list p ≡ ms) (one : new ≡ old ++ (get_or ms i d).name ∷ []) where
  here : i < length (moved_names p)
  here = let k = as_many p ms same in omega (arith, l, k)

  pub names_further : old ≡ take i (moved_names p) → new ≡ take (i + 1) (moved_names p)
  names_further h =
      one ∙ ap₂ (λ (ns : List Name) (n : Name). ns ++ n ∷ []) h (name_there p ms same i d l)
      ∙ sym (ap (λ m. take m (moved_names p)) (add-one i) ∙ take-suc (moved_names p) i d.name here)

  pub rest_further : (all : List Name) → old ++ drop i (moved_names p) ≡ all → new ++ drop (i + 1) (moved_names p) ≡ all
  rest_further all h =
      ap₂ (λ (ns ks : List Name). ns ++ ks) (one ∙ ap (λ n. old ++ n ∷ []) (name_there p ms same i d l)) (ap (λ m. drop m (moved_names p)) (add-one i))
      ∙ append_assoc old (get_or (moved_names p) i d.name ∷ []) (drop (suc i) (moved_names p))
      ∙ ap (λ (ns : List Name). old ++ ns) (sym (drop-cons (moved_names p) i d.name here)) ∙ h

pub rest_last : (ms : List Moved) (i : ℕ) (p : List Swap) (old all : List Name) → length ms ≤ i → moved_list p ≡ ms → old ++ drop i (moved_names p) ≡ all → old ≡ all
rest_last ms i p old all l same h =
    let k = as_many p ms same in
    sym (append-nil old) ∙ ap (λ (ns : List Name). old ++ ns) (sym (drop_all i (moved_names p) (omega (arith, l, k)))) ∙ h
