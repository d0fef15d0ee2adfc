-- Unions of ascending lists of names, and those of the names on which two permutations differ.
use Rattle.std.proofs.Common.{subst, ◌≡◌, ◌≢◌, ◌⊎◌, ◌<◌, ◌≤◌, ◌+◌, ℕ, zero, suc, Bool, true, false, ◌==◌, ◌&&◌, ◌||◌, not, if◌then◌else◌, List, [], ◌∷◌, ◌++◌, map, length, get_or, take, drop, refl, sym, ap, ap₂, ◌∙◌, inl, inr, arith, add-one, append_assoc, append-nil}
use Rattle.std.proofs.Math.Seq.{drop-cons, take-suc}
use Rattle.std.proofs.lemmas.Bool.Decides.{nat_tests}
use Rattle.std.proofs.lemmas.List.{drop_all, get_or-map, length-map, map-append}
use Rattle.ap_defs.specs.Canonical.{moved_names}
use Rattle.ap_defs.specs.Permutations.{act_name, add_name, disagreement, has_name, name_before, name_eq}
use Rattle.ap_defs.specs.declared.terms.Name.{Name}
use Rattle.ap_defs.specs.declared.terms.Swap.{Swap}
use Rattle.ap_theory.proofs.BooleanLemmas.{and_false, and_left, or_false, or_and_absorb, or_and_distribute, or_cases, or_if_right}
use Rattle.ap_theory.proofs.DisagreementLemmas.{has_add, has_disagreement, has_front, has_name_has, same_names}
use Rattle.ap_theory.proofs.OrderedLemmas.{has}
use Rattle.ap_theory.proofs.PermutationLemmas.{act-append, act_sorts, name_eq_itself, name_eq_same, name_tells}
use Rattle.ap_values.specs.Differing.{differing_places}
use Rattle.ap_values.specs.Flat.{image_num, kept, moved_by, moved_list, united}
use Rattle.ap_values.specs.declared.flat.Moved.{Moved}
use Rattle.ap_values.proofs.FlatLemmas.{Ascending, IsAbove, above_name, add_ascends, after_apart, as_many, before_apart, by_name, disagreement_ascends, fixed, moved_ascend, name_there, neither_before, not_after}

-- UNIONS

has_united : (c : Name) (as' bs : List Name) → has_name c (united as' bs) ≡ (has_name c as' || has_name c bs)
has_united c [] bs = refl
has_united c (a ∷ as') bs = has_add c a (united as' bs) ∙ ap (λ v. name_eq c a || v) (has_united c as' bs) ∙ over (name_eq c a) (has_name c as') (has_name c bs)
  where
    over : (x y z : Bool) → (x || (y || z)) ≡ ((x || y) || z)
    over true y z = refl
    over false y z = refl

united_ascends : (as' bs : List Name) → Ascending bs → Ascending (united as' bs)
united_ascends [] bs o = o
united_ascends (a ∷ as') bs o = add_ascends a (united as' bs) (united_ascends as' bs o)

add_first : (a : Name) (bs : List Name) → IsAbove a bs → add_name a bs ≡ a ∷ bs
add_first a [] h = refl
add_first a (b ∷ bs) h = let before : name_before a b ≡ true = above_name a b (b ∷ bs) h (has_front b bs) in rw (before_apart a b before, before) refl

above_cons : (a b : Name) (bs : List Name) → name_before a b ≡ true → IsAbove b bs → IsAbove a (b ∷ bs)
above_cons a b bs h k c m =
    elim (or_cases (name_eq c b) (has_name c bs) (has_name_has c (b ∷ bs) ∙ m)) [
      | inl e ↦ ap (name_before a) (name_eq_same c b e) ∙ h
      | inr l ↦ by_name.trans a b c h (above_name b c bs k l)
    ]

above_united : (a : Name) (as' bs : List Name) → IsAbove a as' → IsAbove a bs → IsAbove a (united as' bs)
above_united a as' bs h k c m =
    elim (or_cases (has_name c as') (has_name c bs) (sym (has_united c as' bs) ∙ has_name_has c (united as' bs) ∙ m)) [
      | inl l ↦ above_name a c as' h l
      | inr l ↦ above_name a c bs k l
    ]

pub united_none : (as' : List Name) → Ascending as' → united as' [] ≡ as'
united_none [] o = refl
united_none (a ∷ as') o = ap (add_name a) (united_none as' o.1) ∙ add_first a as' o.0

-- the least of all comes first
pub left_first : (a b : Name) (as' bs : List Name) → Ascending (a ∷ as') → Ascending (b ∷ bs) → name_before a b ≡ true → united (a ∷ as') (b ∷ bs) ≡ a ∷ united as' (b ∷ bs)
left_first a b as' bs o k h = add_first a (united as' (b ∷ bs)) (above_united a as' (b ∷ bs) o.0 (above_cons a b bs h k.0))

pub right_first : (b : Name) (as' bs : List Name) → IsAbove b as' → united as' (b ∷ bs) ≡ b ∷ united as' bs
right_first b [] bs h = refl
right_first b (a ∷ as') bs h =
    let before : name_before b a ≡ true = above_name b a (a ∷ as') h (has_front a as') in
    ap (add_name a) (right_first b as' bs (λ c m. h c (or_later c m)))
    ∙ rw (after_apart b a before, not_after b a before) refl
  where
    or_later : (c : Name) → has name_eq name_before c as' ≡ true → has name_eq name_before c (a ∷ as') ≡ true
    or_later c m = sym (has_name_has c (a ∷ as')) ∙ or_if_right (name_eq c a) (has_name c as') (has_name_has c as' ∙ m)

pub both_first : (a : Name) (as' bs : List Name) → Ascending (a ∷ as') → Ascending (a ∷ bs) → united (a ∷ as') (a ∷ bs) ≡ a ∷ united as' bs
both_first a as' bs o k =
    ap (add_name a) (right_first a as' bs o.0) ∙ rw (name_eq_itself a) refl

drop_ascends : (ns : List Name) (i : ℕ) → Ascending ns → Ascending (drop i ns)
drop_ascends ns zero o = o
drop_ascends [] (suc i) o = tt
drop_ascends (n ∷ ns) (suc i) o = drop_ascends ns i o.1

-- The merge: what is written and the union of what is left are the union of all.
module _ (p q : List Swap) (ls rs : List Moved) (i j : ℕ) (d e : Moved) (left : moved_list p ≡ ls) (right : moved_list q ≡ rs) (li : i < length ls) (rj : j < length rs) where
  abbrev ps : List Name
  ps = moved_names p

  abbrev qs : List Name
  qs = moved_names q

  abbrev a : Name
  a = get_or ps i d.name

  abbrev b : Name
  b = get_or qs j e.name

  from_left : drop i ps ≡ a ∷ drop (i + 1) ps
  from_left = let k = as_many p ls left in drop-cons ps i d.name (omega (arith, li, k)) ∙ ap (λ n. a ∷ drop n ps) (sym (add-one i))

  from_right : drop j qs ≡ b ∷ drop (j + 1) qs
  from_right = let k = as_many q rs right in drop-cons qs j e.name (omega (arith, rj, k)) ∙ ap (λ n. b ∷ drop n qs) (sym (add-one j))

  left_ascends : Ascending (a ∷ drop (i + 1) ps)
  left_ascends = subst Ascending from_left (drop_ascends ps i (moved_ascend p))

  right_ascends : Ascending (b ∷ drop (j + 1) qs)
  right_ascends = subst Ascending from_right (drop_ascends qs j (moved_ascend q))

  is_left : (get_or ls i d).name ≡ a
  is_left = name_there p ls left i d li

  is_right : (get_or rs j e).name ≡ b
  is_right = name_there q rs right j e rj

  written : (names new rest all : List Name) (n : Name) → names ++ united (drop i ps) (drop j qs) ≡ all → new ≡ names ++ n ∷ []
      → united (drop i ps) (drop j qs) ≡ n ∷ rest → new ++ rest ≡ all
  written names new rest all n inv h k =
      ap (λ (ns : List Name). ns ++ rest) h ∙ append_assoc names (n ∷ []) rest ∙ ap (λ (ns : List Name). names ++ ns) (sym k) ∙ inv

  module _ (names new all : List Name) (inv : names ++ united (drop i ps) (drop j qs) ≡ all) where
    pub left_written : name_before (get_or ls i d).name (get_or rs j e).name ≡ true → new ≡ names ++ (get_or ls i d).name ∷ [] → new ++ united (drop (i + 1) ps) (drop j qs) ≡ all
    left_written t h =
        let before : name_before a b ≡ true = sym (ap₂ name_before is_left is_right) ∙ t in
        written names new (united (drop (i + 1) ps) (drop j qs)) all a inv (h ∙ ap (λ n. names ++ n ∷ []) is_left)
        (ap₂ united from_left from_right ∙ left_first a b (drop (i + 1) ps) (drop (j + 1) qs) left_ascends right_ascends before
        ∙ ap (λ ns. a ∷ united (drop (i + 1) ps) ns) (sym from_right))

    pub right_written : name_before (get_or rs j e).name (get_or ls i d).name ≡ true → new ≡ names ++ (get_or rs j e).name ∷ [] → new ++ united (drop i ps) (drop (j + 1) qs) ≡ all
    right_written t h =
        let before : name_before b a ≡ true = sym (ap₂ name_before is_right is_left) ∙ t in
        written names new (united (drop i ps) (drop (j + 1) qs)) all b inv (h ∙ ap (λ n. names ++ n ∷ []) is_right)
        (ap (united (drop i ps)) from_right ∙ right_first b (drop i ps) (drop (j + 1) qs)
        (subst (IsAbove b) (sym from_left) (above_cons b a (drop (i + 1) ps) before left_ascends.0)))

    pub both_written : name_before (get_or ls i d).name (get_or rs j e).name ≡ false → name_before (get_or rs j e).name (get_or ls i d).name ≡ false → new ≡ names ++ (get_or ls i d).name ∷ []
        → new ++ united (drop (i + 1) ps) (drop (j + 1) qs) ≡ all
    both_written t u h =
        let same : a ≡ b = neither_before a b (sym (ap₂ name_before is_left is_right) ∙ t) (sym (ap₂ name_before is_right is_left) ∙ u) in
        written names new (united (drop (i + 1) ps) (drop (j + 1) qs)) all a inv (h ∙ ap (λ n. names ++ n ∷ []) is_left)
        (ap₂ united from_left (from_right ∙ ap (λ n. n ∷ drop (j + 1) qs) (sym same))
        ∙ both_first a (drop (i + 1) ps) (drop (j + 1) qs) left_ascends (subst (λ n. Ascending (n ∷ drop (j + 1) qs)) (sym same) right_ascends))

-- where one of them is at its end, the others are the rest of the other
pub rest_written : (p q : List Swap) (ls rs : List Moved) (i j : ℕ) (names new last all : List Name) → moved_list p ≡ ls → moved_list q ≡ rs → length ls ≤ i ⊎ length rs ≤ j
    → names ++ united (drop i (moved_names p)) (drop j (moved_names q)) ≡ all → new ≡ names ++ drop i (moved_names p) → last ≡ new ++ drop j (moved_names q) → last ≡ all
rest_written p q ls rs i j names new last all left right end inv h k =
    k ∙ ap (λ (ns : List Name). ns ++ drop j (moved_names q)) h ∙ append_assoc names (drop i (moved_names p)) (drop j (moved_names q))
    ∙ ap (λ (ns : List Name). names ++ ns) rest ∙ inv
  where
    rest : drop i (moved_names p) ++ drop j (moved_names q) ≡ united (drop i (moved_names p)) (drop j (moved_names q))
    rest = elim end [
      | inl e ↦
          let m = as_many p ls left in
          let none : drop i (moved_names p) ≡ [] = drop_all i (moved_names p) (omega (arith, e, m)) in
          ap (λ (ns : List Name). ns ++ drop j (moved_names q)) none ∙ sym (ap (λ (ns : List Name). united ns (drop j (moved_names q))) none)
      | inr e ↦
          let m = as_many q rs right in
          let none : drop j (moved_names q) ≡ [] = drop_all j (moved_names q) (omega (arith, e, m)) in
          ap (λ (ns : List Name). drop i (moved_names p) ++ ns) none ∙ append-nil (drop i (moved_names p))
          ∙ sym (ap (united (drop i (moved_names p))) none ∙ united_none (drop i (moved_names p)) (drop_ascends (moved_names p) i (moved_ascend p)))
    ]

-- THE NAMES ON WHICH TWO PERMUTATIONS DIFFER

abbrev differs : List Swap → List Swap → Name → Bool
differs p q c = not (name_eq (act_name p c) (act_name q c))

has_kept : (p q : List Swap) (c : Name) (ns : List Name) → has_name c (kept p q ns) ≡ (has_name c ns && differs p q c)
has_kept p q c [] = refl
has_kept p q c (d ∷ ds) =
    elim (name_tells (act_name p d) (act_name q d)) [
      | inl w ↦ rw w.0 (has_kept p q c ds ∙ or_and_absorb (name_eq c d) (has_name c ds) (differs p q c) (λ e.
          let k = name_eq_same c d e in
          ap not (ap (name_eq (act_name p c)) (ap (act_name q) k ∙ sym w.1 ∙ sym (ap (act_name p) k)) ∙ name_eq_itself (act_name p c))))
      | inr w ↦ rw w.0 (ap (λ x. name_eq c d || x) (has_kept p q c ds) ∙ or_and_distribute (name_eq c d) (has_name c ds) (differs p q c) (λ e.
          ap (λ x. differs p q x) (name_eq_same c d e) ∙ ap not w.0))
    ]

kept_ascends : (p q : List Swap) (ns : List Name) → Ascending ns → Ascending (kept p q ns)
kept_ascends p q [] o = tt
kept_ascends p q (n ∷ ns) o =
    elim (name_eq (act_name p n) (act_name q n)) as (λ v. Ascending (if v then kept p q ns else (n ∷ kept p q ns))) [
      | true ↦ kept_ascends p q ns o.1
      | false ↦ (λ c m. above_name n c ns o.0 (and_left (has_name c ns) (differs p q c) (sym (has_kept p q c ns) ∙ has_name_has c (kept p q ns) ∙ m)), kept_ascends p q ns o.1)
    ]

-- an ascending list that has all of them
pub kept_all : (p q : List Swap) (ns : List Name) → Ascending ns → ((c : Name) → act_name p c ≢ act_name q c → has_name c ns ≡ true) → kept p q ns ≡ disagreement p q
kept_all p q ns o covers =
    same_names (kept p q ns) (disagreement p q) (kept_ascends p q ns o) (disagreement_ascends p q) (λ c. has_kept p q c ns ∙ either c ∙ sym (has_disagreement p q c))
  where
    either : (c : Name) → (has_name c ns && differs p q c) ≡ differs p q c
    either c = elim (name_tells (act_name p c) (act_name q c)) [
      | inl w ↦ rw w.0 (and_false (has_name c ns))
      | inr w ↦ ap (λ x. x && differs p q c) (covers c w.1)
    ]

-- what one of two permutations moves
module _ (p q : List Swap) where
  abbrev both : List Name
  both = united (moved_names p) (moved_names q)

  both_ascend : Ascending both
  both_ascend = united_ascends (moved_names p) (moved_names q) (moved_ascend q)

  in_neither : (c : Name) → has_name c both ≡ false → (act_name p c ≡ c) × (act_name q c ≡ c)
  in_neither c h =
      let k = or_false (has_name c (moved_names p)) (has_name c (moved_names q)) (sym (has_united c (moved_names p) (moved_names q)) ∙ h) in
      (fixed p c k.0, fixed q c k.1)

  covered : (x y : Name → Name) → ((c : Name) → act_name p c ≡ c → act_name q c ≡ c → x c ≡ y c) → (c : Name) → x c ≢ y c → has_name c both ≡ true
  covered x y h c n =
      elim (has_name c both) as (λ v. has_name c both ≡ v → v ≡ true) [
        | true ↦ λ e. refl
        | false ↦ λ e. let k = in_neither c e in absurd (n (h c k.0 k.1))
      ] refl

  pub kept_differences : kept p q both ≡ disagreement p q
  kept_differences = kept_all p q both both_ascend (covered (act_name p) (act_name q) (λ c k l. k ∙ sym l))

  pub kept_composed : kept (q ++ p) [] both ≡ moved_names (q ++ p)
  kept_composed = kept_all (q ++ p) [] both both_ascend (covered (act_name (q ++ p)) (λ c. c) (λ c k l. act-append q p c ∙ ap (act_name q) k ∙ l))

kept-append : (p q : List Swap) (as' bs : List Name) → kept p q (as' ++ bs) ≡ kept p q as' ++ kept p q bs
kept-append p q [] bs = refl
kept-append p q (a ∷ as') bs =
    elim (name_eq (act_name p a) (act_name q a)) as (λ v. (if v then kept p q (as' ++ bs) else (a ∷ kept p q (as' ++ bs))) ≡ (if v then kept p q as' else (a ∷ kept p q as')) ++ kept p q bs) [
      | true ↦ kept-append p q as' bs
      | false ↦ ap (λ cs. a ∷ cs) (kept-append p q as' bs)
    ]

-- one further name
module _ (p q : List Swap) (ns : List Name) (i : ℕ) (d : Name) (l : i < length ns) where
  further : take (i + 1) ns ≡ take i ns ++ get_or ns i d ∷ []
  further = ap (λ m. take m ns) (add-one i) ∙ take-suc ns i d l

  abbrev n : Name
  n = get_or ns i d

  pub kept_past : name_eq (act_name p n) (act_name q n) ≡ true → kept p q (take (i + 1) ns) ≡ kept p q (take i ns)
  kept_past h =
      ap (kept p q) further ∙ kept-append p q (take i ns) (n ∷ [])
      ∙ ap (λ v. kept p q (take i ns) ++ (if v then [] else (n ∷ []))) h ∙ append-nil (kept p q (take i ns))

  pub kept_further : name_eq (act_name p n) (act_name q n) ≡ false → kept p q (take (i + 1) ns) ≡ kept p q (take i ns) ++ n ∷ []
  kept_further h =
      ap (kept p q) further ∙ kept-append p q (take i ns) (n ∷ [])
      ∙ ap (λ v. kept p q (take i ns) ++ (if v then [] else (n ∷ []))) h

-- marks
place_at : (xs ys : List ℕ) (i d e f : ℕ) → i < length xs → i < length ys → get_or (differing_places xs ys) i d ≡ (if get_or xs i e == get_or ys i f then 0 else 1)
place_at [] ys i d e f l k = absurd (omega (arith, l))
place_at (x ∷ xs) [] i d e f l k = absurd (omega (arith, k))
place_at (x ∷ xs) (y ∷ ys) zero d e f l k = refl
place_at (x ∷ xs) (y ∷ ys) (suc i) d e f l k = place_at xs ys i d e f (omega (arith, l)) (omega (arith, k))

num_tells : (a b : Name) → a.sort ≡ b.sort → name_eq a b ≡ (a.num == b.num)
unfolding name_eq
num_tells a b h = grind (arith, nat_tests)

module _ (p q : List Swap) (ns : List Name) (marks : List ℕ) (i e : ℕ) (d : Name) (l : i < length ns) (m : marks ≡ differing_places (map (image_num p) ns) (map (image_num q) ns)) where
  mark_is : get_or marks i e ≡ (if name_eq (act_name p (get_or ns i d)) (act_name q (get_or ns i d)) then 0 else 1)
  mark_is =
      let n = get_or ns i d in
      let left = length-map ns (image_num p) in
      let right = length-map ns (image_num q) in
      ap (λ (ms : List ℕ). get_or ms i e) m
      ∙ place_at (map (image_num p) ns) (map (image_num q) ns) i e 0 0 (omega (arith, l, left)) (omega (arith, l, right))
      ∙ ap₂ (λ x y. if x == y then 0 else 1) (get_or-map (image_num p) ns i d 0 l) (get_or-map (image_num q) ns i d 0 l)
      ∙ ap (λ v. if v then 0 else 1) (sym (num_tells (act_name p n) (act_name q n) (act_sorts p q n n refl)))

  pub mark_tells : get_or marks i e ≡ 1 → name_eq (act_name p (get_or ns i d)) (act_name q (get_or ns i d)) ≡ false
  mark_tells h = one _ (sym mark_is ∙ h)
    where
      one : (v : Bool) → ◌≡◌ {A = ℕ} (if v then 0 else 1) 1 → v ≡ false
      one true k = absurd (omega (arith, k))
      one false k = refl

  pub mark_lacks : get_or marks i e ≢ 1 → name_eq (act_name p (get_or ns i d)) (act_name q (get_or ns i d)) ≡ true
  mark_lacks h = other _ mark_is
    where
      other : (v : Bool) → get_or marks i e ≡ (if v then 0 else 1) → v ≡ true
      other true k = refl
      other false k = absurd (h k)

-- one permutation after another
module _ (p q : List Swap) (ns : List Name) (i : ℕ) (d b : Name) (old : List Moved) (l : i < length ns) (at : b ≡ act_name q (act_name p (get_or ns i d)))
    (inv : old ≡ map (moved_by (q ++ p)) (kept (q ++ p) [] (take i ns))) where
  after : act_name (q ++ p) (get_or ns i d) ≡ b
  after = act-append q p (get_or ns i d) ∙ sym at

  pub composed_past : name_eq b (get_or ns i d) ≡ true → old ≡ map (moved_by (q ++ p)) (kept (q ++ p) [] (take (i + 1) ns))
  composed_past t = inv ∙ ap (map (moved_by (q ++ p))) (sym (kept_past (q ++ p) [] ns i d l (ap (λ x. name_eq x (get_or ns i d)) after ∙ t)))

  pub composed_further : (new : List Moved) → name_eq b (get_or ns i d) ≡ false → new ≡ old ++ record { name = get_or ns i d; image = b.num } ∷ []
      → new ≡ map (moved_by (q ++ p)) (kept (q ++ p) [] (take (i + 1) ns))
  composed_further new t one =
      let a = get_or ns i d in
      one ∙ ap₂ (λ (ms : List Moved) (x : Name). ms ++ record { name = a; image = x.num } ∷ []) inv (sym after)
      ∙ sym (map-append (moved_by (q ++ p)) (kept (q ++ p) [] (take i ns)) (a ∷ []))
      ∙ ap (map (moved_by (q ++ p))) (sym (kept_further (q ++ p) [] ns i d l (ap (λ x. name_eq x a) after ∙ t)))

pub marks_long : (p q : List Swap) (ns : List Name) (marks : List ℕ) → marks ≡ differing_places (map (image_num p) ns) (map (image_num q) ns) → length marks ≡ length ns
marks_long p q ns marks h = ap (λ (ms : List ℕ). length ms) h ∙ long ns
  where
    long : (as' : List Name) → length (differing_places (map (image_num p) as') (map (image_num q) as')) ≡ length as'
    long [] = refl
    long (a ∷ as') = ap suc (long as')
