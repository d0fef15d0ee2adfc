-- Moved names that are exchanged in ascending order give the canonical list.
use Rattle.std.proofs.Common.{subst, ◌≡◌, ◌≢◌, ◌<◌, ◌≤◌, ◌+◌, ℕ, zero, suc, true, false, if◌then◌else◌, List, [], ◌∷◌, ◌++◌, map, length, get_or, drop, refl, sym, ap, ap₂, ◌∙◌, inl, inr, arith, true≢false, add-one, append_assoc, append-nil}
use Rattle.std.proofs.Math.Seq.{drop-cons}
use Rattle.std.proofs.lemmas.List.{drop_all}
use Rattle.std.proofs.lemmas.Bool.Decides.{nat_tests}
use Rattle.std.proofs.lemmas.Map.Keys.{sorted_head, sorted_tail}
use Rattle.std.specs.Map.{lookup}
use Rattle.std.specs.Ordering.{is_eq}
use Rattle.std.specs.Prelude.{Option, Some, None, is_some}
use Rattle.std.specs.List.{AllByRecursion}
use Rattle.std.specs.List.Sorted.{IsStrictlySortedBy}
use Rattle.std.specs.declared.cmp.Ordering.TheVariants.{Less}
use Rattle.ap_defs.specs.Canonical.{canonical, canonical_within, least, moved_names, num_before, swap_first}
use Rattle.ap_defs.specs.Occurrences.{without_name}
use Rattle.ap_defs.specs.Permutations.{act_name, has_name, inverse, name_eq, swap_name, swap_of}
use Rattle.ap_defs.specs.declared.terms.Name.{Name}
use Rattle.ap_defs.specs.declared.terms.Swap.{Swap}
use Rattle.ap_theory.proofs.BooleanLemmas.{or_cases, or_if_left, or_if_right, or_right}
use Rattle.ap_theory.proofs.DisagreementLemmas.{differing_disagree, disagree_differing, disagreement_none, has_front}
use Rattle.ap_theory.proofs.PermutationLemmas.{act_injective, act_sort, has_without_name, inverse-append, length_without_name, name_decided, name_eq_same, name_tells, not_name, same_name_parts, swap_other, swap_right}
use Rattle.ap_perm.specs.Images.{AreImages, image_by, image_or, key_cmp, key_of, name_of}
use Rattle.ap_perm.proofs.ImageLemmas.{found_named}

-- each of the names that is still moved is exchanged with its image, one after the other
abbrev exchanged : List Name → List Swap → List Swap
exchanged [] p = []
exchanged (a ∷ as') p = if name_eq (act_name p a) a then exchanged as' p else (swap_of a (act_name p a) ∷ exchanged as' (swap_of a (act_name p a) ∷ p))

abbrev Moves : List Swap → Name → Type 0
Moves p c = act_name p c ≢ c

-- the names that are moved are among these
abbrev pub Covers : List Name → List Swap → Type 0
Covers as' p = (c : Name) → Moves p c → has_name c as' ≡ true

-- none of these comes before the name
abbrev NoneIsBefore : Name → List Name → Type 0
NoneIsBefore a bs = (b : Name) → has_name b bs ≡ true → num_before b a ≡ false

abbrev pub Ascend : List Name → Type 0
Ascend [] = Unit {0}
Ascend (a ∷ as') = NoneIsBefore a as' × Ascend as'

one_order : (a b : Name) → num_before a b ≡ false → num_before b a ≡ false → a ≡ b
one_order a b h k = same_name_parts a b (grind (arith, nat_tests)) (grind (arith, nat_tests))

not_before_itself : (a : Name) → num_before a a ≡ false
not_before_itself a = grind (arith, nat_tests)

-- THE LEAST

least_is : (a b : Name) (bs : List Name) → has_name a (b ∷ bs) ≡ true → NoneIsBefore a (b ∷ bs) → least b bs ≡ a
least_is a b [] h f = elim (or_cases (name_eq a b) false h) [ inl e ↦ sym (name_eq_same a b e) | inr k ↦ absurd (true≢false (sym k)) ]
least_is a b (c ∷ cs) h f =
    elim (num_before c b) as (λ v. num_before c b ≡ v → (if v then least c cs else least b cs) ≡ a) [
      | true ↦ λ e. least_is a c cs (later e) (λ d k. f d (or_if_right (name_eq d b) (has_name d (c ∷ cs)) k))
      | false ↦ λ e. least_is a b cs (kept e) (λ d k. f d (over d k))
    ] refl
  where
    -- where c comes before b, a is not b
    later : num_before c b ≡ true → has_name a (c ∷ cs) ≡ true
    later e = elim (or_cases (name_eq a b) (has_name a (c ∷ cs)) h) [
      | inl w ↦ absurd (true≢false (sym e ∙ sym (ap (num_before c) (name_eq_same a b w)) ∙ f c (or_if_right (name_eq c b) (has_name c (c ∷ cs)) (has_front c cs))))
      | inr k ↦ k
    ]

    over : (d : Name) → has_name d (b ∷ cs) ≡ true → has_name d (b ∷ c ∷ cs) ≡ true
    over d k = elim (or_cases (name_eq d b) (has_name d cs) k) [
      | inl w ↦ or_if_left (name_eq d b) (has_name d (c ∷ cs)) w
      | inr l ↦ or_if_right (name_eq d b) (has_name d (c ∷ cs)) (or_if_right (name_eq d c) (has_name d cs) l)
    ]

    -- else c may only be a where b is it too
    kept : num_before c b ≡ false → has_name a (b ∷ cs) ≡ true
    kept e = elim (or_cases (name_eq a b) (has_name a (c ∷ cs)) h) [
      | inl w ↦ or_if_left (name_eq a b) (has_name a cs) w
      | inr k ↦ elim (or_cases (name_eq a c) (has_name a cs) k) [
        | inl w ↦
            let same : a ≡ c = name_eq_same a c w in
            let first : num_before b a ≡ false = f b (has_front b (c ∷ cs)) in
            let second : num_before a b ≡ false = ap (λ x. num_before x b) same ∙ e in
            ap (λ x. has_name x (b ∷ cs)) (one_order a b second first) ∙ has_front b cs
        | inr l ↦ or_if_right (name_eq a b) (has_name a cs) l
      ]
    ]

-- after a moved name has been exchanged with its image, it is moved no more, and no further name is
exchanged_apart : (p : List Swap) (b c : Name) → Moves (swap_of b (act_name p b) ∷ p) c → c ≢ b
exchanged_apart p b c m e =
    m (ap (λ x. swap_name (swap_of b (act_name p b)) (act_name p x)) e ∙ swap_right b (act_name p b) (sym (act_sort p b)) ∙ sym e)

exchanged_moves : (p : List Swap) (b c : Name) → Moves p b → Moves (swap_of b (act_name p b) ∷ p) c → Moves p c
exchanged_moves p b c n m e =
    let apart : c ≢ b = λ f. n (ap (act_name p) (sym f) ∙ e ∙ f) in
    m (ap (swap_name (swap_of b (act_name p b))) e ∙ swap_other b (act_name p b) c (sym (act_sort p b)) apart (λ f. apart (act_injective p c b (e ∙ f))))

-- ALL OF THEM

none_moved : (n : ℕ) (p : List Swap) → moved_names p ≡ [] → canonical_within n p ≡ []
none_moved zero p h = refl
none_moved (suc n) p h = ap (swap_first (canonical_within n) p) h

first_moved : (go : List Swap → List Swap) (p : List Swap) (a : Name) (bs : List Name) → has_name a bs ≡ true → NoneIsBefore a bs
    → swap_first go p bs ≡ swap_of a (act_name p a) ∷ go (swap_of a (act_name p a) ∷ p)
first_moved go p a [] h f = cc
first_moved go p a (b ∷ bs) h f = ap (λ x. swap_of x (act_name p x) ∷ go (swap_of x (act_name p x) ∷ p)) (least_is a b bs h f)

one_exchanged : (n : ℕ) (p rest : List Swap) (a : Name) (as' vs : List Name) → Moves p a → NoneIsBefore a as' → Covers (a ∷ as') p → Covers vs p → length vs ≤ n
    → ((m : ℕ) → length (without_name a vs) ≤ m → canonical_within m (swap_of a (act_name p a) ∷ p) ≡ rest)
    → canonical_within n p ≡ swap_of a (act_name p a) ∷ rest
one_exchanged zero p rest a as' vs m f c d l go = let fewer : length (without_name a vs) < length vs = length_without_name a vs (d a m) in absurd (omega arith)
one_exchanged (suc n) p rest a as' vs m f c d l go =
    let fewer : length (without_name a vs) < length vs = length_without_name a vs (d a m) in
    first_moved (canonical_within n) p a (moved_names p) (differing_disagree p [] a m) none
    ∙ ap (λ q. swap_of a (act_name p a) ∷ q) (go n (omega arith))
  where
    none : NoneIsBefore a (moved_names p)
    none b k = elim (or_cases (name_eq b a) (has_name b as') (c b (disagree_differing p [] b k))) [
      | inl e ↦ ap (λ x. num_before x a) (name_eq_same b a e) ∙ not_before_itself a
      | inr l ↦ f b l
    ]

others_cover : (a : Name) (as' : List Name) (c : Name) → c ≢ a → has_name c (a ∷ as') ≡ true → has_name c as' ≡ true
others_cover a as' c n h = or_right (name_eq c a) (has_name c as') (not_name c a n) h

within_exchanged : (n : ℕ) (as' vs : List Name) (p : List Swap) → Ascend as' → Covers as' p → Covers vs p → length vs ≤ n → canonical_within n p ≡ exchanged as' p
within_exchanged n [] vs p o c d l =
    none_moved n p (disagreement_none p [] (λ a. elim (name_decided (act_name p a) a) [ inl e ↦ e | inr m ↦ absurd (true≢false (sym (c a m))) ]))
within_exchanged n (a ∷ as') vs p o c d l =
    elim (name_tells (act_name p a) a) [
      | inl w ↦ rw w.0 (within_exchanged n as' vs p o.1 (λ b m. others_cover a as' b (λ e. m (ap (act_name p) e ∙ w.1 ∙ sym e)) (c b m)) d l)
      | inr w ↦
          let s = swap_of a (act_name p a) in
          rw w.0 (one_exchanged n p (exchanged as' (s ∷ p)) a as' vs w.1 o.0 c d l
          (λ m k. within_exchanged m as' (without_name a vs) (s ∷ p) o.1
          (λ b e. others_cover a as' b (exchanged_apart p a b e) (c b (exchanged_moves p a b w.1 e)))
          (λ b e. has_without_name a b vs (exchanged_apart p a b e) (d b (exchanged_moves p a b w.1 e))) k))
    ]

pub canonical_exchanged : (as' : List Name) (p : List Swap) → Ascend as' → Covers as' p → canonical p ≡ exchanged as' p
unfolding canonical
canonical_exchanged as' p o c = within_exchanged (length (moved_names p)) as' (moved_names p) p o c (λ a m. differing_disagree p [] a m) (omega arith)

-- THE NAMES OF A TABLE ASCEND

none_before : (k : ℕ × ℕ) (ks : List (ℕ × ℕ)) → AllByRecursion (λ y. key_cmp k y ≡ Less) ks → NoneIsBefore (name_of k) (map name_of ks)
none_before k [] h b m = cc
none_before k (y ∷ ys) h b m =
    elim (or_cases (name_eq b (name_of y)) (has_name b (map name_of ys)) m) [
      | inl e ↦ ap (λ x. num_before x (name_of k)) (name_eq_same b (name_of y) e) ∙ less k y h.0
      | inr l ↦ none_before k ys h.1 b l
    ]
  where
    less : (p q : ℕ × ℕ) → key_cmp p q ≡ Less → num_before (name_of q) (name_of p) ≡ false
    less p q h = grind (arith, nat_tests)

pub keys_ascend : (ks : List (ℕ × ℕ)) → IsStrictlySortedBy key_cmp ks → Ascend (map name_of ks)
keys_ascend [] h = tt
keys_ascend (k ∷ ks) h = (none_before k ks (sorted_head key_cmp k ks h), keys_ascend ks (sorted_tail key_cmp k ks h))

pub table_covers : (es : List ((ℕ × ℕ) × ℕ)) (p : List Swap) → AreImages p (λ k. lookup (λ l. is_eq (key_cmp k l)) es) → Covers (map name_of (map (λ e. e.0) es)) p
table_covers es p inv c m =
    elim (lookup (λ k. is_eq (key_cmp (key_of c) k)) es) as (λ o. lookup (λ k. is_eq (key_cmp (key_of c) k)) es ≡ o → has_name c (map name_of (map (λ e. e.0) es)) ≡ true) [
      | None ↦ λ e. absurd (m (sym (inv c) ∙ ap (λ o. image_or o c) e))
      | Some n ↦ λ e. sym (found_named es c) ∙ ap is_some e
    ] refl

-- THE LOOP

-- So many names have been gone through. The swappings that came are the beginning of the canonical list, and the tables have what they leave.
pub record StandsAt (p : List Swap) (names : List Name) (i : ℕ) (swaps : List Swap) (f g : ℕ × ℕ → Option ℕ) : Type 0 where
  pub list : canonical p ≡ swaps ++ exchanged (drop i names) (inverse swaps ++ p)
  pub images : AreImages (inverse swaps ++ p) f
  pub origins : AreImages (inverse (inverse swaps ++ p)) g

pub stands_first : (p swaps : List Swap) (names : List Name) (es : List ((ℕ × ℕ) × ℕ)) (g : ℕ × ℕ → Option ℕ) → swaps ≡ [] → names ≡ map name_of (map (λ e. e.0) es)
    → IsStrictlySortedBy key_cmp (map (λ e. e.0) es) → AreImages p (λ k. lookup (λ l. is_eq (key_cmp k l)) es) → AreImages (inverse p) g
    → StandsAt p names 0 swaps (λ k. lookup (λ l. is_eq (key_cmp k l)) es) g
stands_first p swaps names es g e n o f b =
    subst (λ q. StandsAt p names 0 q (λ k. lookup (λ l. is_eq (key_cmp k l)) es) g) (sym e)
    (record {
      list = canonical_exchanged (map name_of (map (λ e. e.0) es)) p (keys_ascend (map (λ e. e.0) es) o) (table_covers es p f) ∙ ap (λ as'. exchanged as' p) (sym n);
      images = f;
      origins = b;
    })

pub stands_last : (p swaps : List Swap) (names : List Name) (i : ℕ) (f g : ℕ × ℕ → Option ℕ) → length names ≤ i → StandsAt p names i swaps f g → swaps ≡ canonical p
stands_last p swaps names i f g l inv = sym (inv.list ∙ ap (λ as'. swaps ++ exchanged as' (inverse swaps ++ p)) (drop_all i names l) ∙ append-nil swaps)

module _ (p swaps : List Swap) (names : List Name) (i : ℕ) (d b : Name) (f g : ℕ × ℕ → Option ℕ) (h : i < length names) (e : b ≡ image_by f (get_or names i d)) (inv : StandsAt p names i swaps f g) where
  abbrev a : Name
  a = get_or names i d

  abbrev left : List Swap
  left = inverse swaps ++ p

  rest : drop i names ≡ a ∷ drop (i + 1) names
  rest = drop-cons names i d h ∙ ap (λ n. a ∷ drop n names) (sym (add-one i))

  image : b ≡ act_name left a
  image = e ∙ inv.images a

  pub stands_past : name_eq b a ≡ true → StandsAt p names (i + 1) swaps f g
  stands_past t =
      let test : name_eq (act_name left a) a ≡ true = ap (λ x. name_eq x a) (sym image) ∙ t in
      let step : exchanged (a ∷ drop (i + 1) names) left ≡ exchanged (drop (i + 1) names) left = rw test refl in
      record { list = inv.list ∙ ap (λ q. swaps ++ q) (ap (λ as'. exchanged as' left) rest ∙ step); images = inv.images; origins = inv.origins }

  pub stands_further : (swaps' : List Swap) (f' g' : ℕ × ℕ → Option ℕ) → name_eq b a ≡ false → swaps' ≡ swaps ++ swap_of a b ∷ []
      → ((q : List Swap) → AreImages q f → AreImages (inverse q) g → AreImages (swap_of a b ∷ q) f' × AreImages (inverse (swap_of a b ∷ q)) g')
      → StandsAt p names (i + 1) swaps' f' g'
  stands_further swaps' f' g' t more turn =
      let s = swap_of a b in
      let test : name_eq (act_name left a) a ≡ false = ap (λ x. name_eq x a) (sym image) ∙ t in
      let one : exchanged (a ∷ drop (i + 1) names) left ≡ swap_of a (act_name left a) ∷ exchanged (drop (i + 1) names) (swap_of a (act_name left a) ∷ left) = rw test refl in
      let step : exchanged (a ∷ drop (i + 1) names) left ≡ s ∷ exchanged (drop (i + 1) names) (s ∷ left) =
      one ∙ ap (λ x. swap_of a x ∷ exchanged (drop (i + 1) names) (swap_of a x ∷ left)) (sym image) in
      let now : inverse swaps' ++ p ≡ s ∷ left = ap (λ q. inverse q ++ p) more ∙ ap (λ q. q ++ p) (inverse-append swaps (s ∷ [])) in
      let tables = turn left inv.images inv.origins in
      record {
        list = inv.list ∙ ap (λ q. swaps ++ q) (ap (λ as'. exchanged as' left) rest ∙ step) ∙ sym (append_assoc swaps (s ∷ []) (exchanged (drop (i + 1) names) (s ∷ left)))
            ∙ ap₂ (λ r q. r ++ exchanged (drop (i + 1) names) q) (sym more) (sym now);
        images = subst (λ q. AreImages q f') (sym now) tables.0;
        origins = subst (λ q. AreImages (inverse q) g') (sym now) tables.1;
      }
