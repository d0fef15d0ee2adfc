-- Swappings that take names out of the way do so.
use Rattle.std.proofs.Common.{◌≡◌, ◌∙◌, ◌+◌, ℕ, Bool, true, false, ◌&&◌, ◌||◌, not, List, [], ◌∷◌, ◌++◌, map, drop, None, Some, cond, nat_eq, nat_lt, refl, sym, ap, ap₂, subst, inl, inr, arith, true≢false, append_assoc, append-nil, length}
use Rattle.std.specs.Prelude.{filter, if◌then◌else◌, slice_get}
use Rattle.std.specs.List.{list_any}
use Rattle.std.specs.Option.{unwrap_or}
use Rattle.std.proofs.Math.Seq.{drop-append_seam}
use Rattle.std.proofs.lemmas.Bool.{eqb-true, ltb-false, ltb-true}
use Rattle.std.proofs.lemmas.List.Elements.{filter-append}
use Rattle.ap_defs.specs.declared.terms.Name.{Name}
use Rattle.ap_defs.specs.declared.terms.Swap.{Swap}
use Rattle.ap_defs.specs.Alpha.{fresh}
use Rattle.ap_defs.specs.Answers.{NominalAnswer}
use Rattle.ap_defs.specs.GroundProofs.{AreDifferent, AreOfSorts}
use Rattle.ap_defs.specs.Groundings.{grounded}
use Rattle.ap_defs.specs.Occurrences.{names_of_terms, names_then}
use Rattle.ap_defs.specs.Permutations.{act_name, has_name, name_eq, names_of, right_name, swap_of}
use Rattle.ap_defs.specs.Printing.{first_names}
use Rattle.ap_defs.specs.Renaming.{local_names}
use Rattle.ap_defs.specs.Terms as terms
use Rattle.ap_defs.specs.Terms.{NominalTerm}
use Rattle.ap_defs.specs.Types.{NominalLocal}
use Rattle.ap_theory.specs.Exchanges.{exchange}
use Rattle.ap_theory.specs.StatementsOnExchanges.{Exchangeable}
use Rattle.ap_theory.proofs.BooleanLemmas.{and_both, and_left, and_right, false_if_not, or_cases, or_false, or_if_left, or_if_right}
use Rattle.ap_theory.proofs.DisagreementLemmas.{has_name-append}
use Rattle.ap_theory.proofs.ExchangeLemmas.{exchange_goes, exchange_other}
use Rattle.ap_theory.proofs.PermutationLemmas.{name_eq_itself, name_eq_same}
use Rattle.ap_ground.proofs.ListLemmas.{first_names_different, has_first_names}
use Rattle.ap_ground.proofs.ProofActionLemmas.{has_act}
use Rattle.ap_complete.specs.Coverings.{TakesApart, names_of_answer}
use Rattle.ap_complete.specs.StatementsOnFreshness.{FreshForTerms}
use Rattle.ap_answers.specs.Occurring.{more_names}
use Rattle.ap_cover.specs.Ground.{ground_terms}
use Rattle.ap_property.specs.Stated.{other_names}
use Rattle.ap_instance.proofs.NameLemmas.{name_there}
use Rattle.indexmap.specs.IndexMap.{IndexMap, get}
use Rattle.ap_clearing.specs.Clearing.{AreUsedBelow, Clears, Takes, in_the_way, used_names}
use Rattle.ap_clearing.specs.Starts.{SkipsUsed}

-- what has no length is empty
pub no_more : {A : Type 0} (xs : List A) → length xs ≡ 0 → xs ≡ []
no_more [] h = refl
no_more (x ∷ xs) h = absurd (omega (arith, h))

pub any_name : (a : Name) (as' : List Name) → list_any (name_eq a) as' ≡ has_name a as'
any_name a [] = refl
any_name a (b ∷ bs) = ap (λ r. name_eq a b || r) (any_name a bs)

pub kept_one : (used : List Name) (a : Name) (xs more : List Name) → has_name a used ≡ true → more ≡ xs ++ a ∷ [] → more ≡ xs ++ filter (λ b. has_name b used) (a ∷ [])
kept_one used a xs more h e = e ∙ ap (λ v. xs ++ (if v then (a ∷ []) else [])) (sym h)

pub kept_none : (used : List Name) (a : Name) (xs : List Name) → has_name a used ≡ false → xs ≡ xs ++ filter (λ b. has_name b used) (a ∷ [])
kept_none used a xs h = sym (append-nil xs) ∙ ap (λ v. xs ++ (if v then (a ∷ []) else [])) (sym h)

-- one name more is looked at
pub next_kept : (keep : Name → Bool) (xs more keys : List Name) (place : ℕ) (a : Name) (whole : List Name) → more ≡ xs ++ filter keep (a ∷ []) → slice_get keys place ≡ Some a
    → xs ++ filter keep (drop place keys) ≡ whole → more ++ filter keep (drop (place + 1) keys) ≡ whole
next_kept keep xs more keys place a whole m e h =
    let rest = drop (place + 1) keys in
    ap (λ l. l ++ filter keep rest) m ∙ append_assoc xs (filter keep (a ∷ [])) (filter keep rest)
    ∙ ap (λ l. xs ++ l) (sym (filter-append keep (a ∷ []) rest))
    ∙ ap (λ l. xs ++ filter keep l) (sym (name_there keys place a e)) ∙ h

-- one name more is used
pub has_brought : (used : List Name) (a b : Name) → has_name b (used ++ a ∷ []) ≡ (has_name b used || (name_eq b a || false))
has_brought used a b = has_name-append b used (a ∷ [])

pub still_used : (used : List Name) (a b : Name) → has_name b used ≡ true → has_name b (used ++ a ∷ []) ≡ true
still_used used a b h = has_brought used a b ∙ or_if_left (has_name b used) (name_eq b a || false) h

pub brought_used : (used : List Name) (a : Name) → has_name a (used ++ a ∷ []) ≡ true
brought_used used a = has_brought used a a ∙ or_if_right (has_name a used) (name_eq a a || false) (or_if_left (name_eq a a) false (name_eq_itself a))

pub not_used_before : (used : List Name) (a b : Name) → has_name b (used ++ a ∷ []) ≡ false → has_name b used ≡ false
not_used_before used a b h = (or_false (has_name b used) (name_eq b a || false) (sym (has_brought used a b) ∙ h)).0

-- a name that is not used is added at the end
pub added : (used more : List Name) (a : Name) → has_name a used ≡ false → more ≡ (if list_any (name_eq a) used then used else used ++ a ∷ []) → more ≡ used ++ a ∷ []
added used more a h e = e ∙ ap (λ v. if v then used else used ++ a ∷ []) (any_name a used ∙ h)

-- below the number of a name that was taken, and up to it, all are used
used_up_to : (used : List Name) (a : Name) → AreUsedBelow used a.sort a.num → AreUsedBelow (used ++ a ∷ []) a.sort (a.num + 1)
used_up_to used a h i l =
    elim (nat_lt i a.num) as (λ v. nat_lt i a.num ≡ v → has_name (record { sort = a.sort; num = i }) (used ++ a ∷ []) ≡ true) [
      | true ↦ λ e. still_used used a (record { sort = a.sort; num = i }) (h i (ltb-true i a.num e))
      | false ↦ λ e.
          let k = ltb-false i a.num e in
          let same : a.num ≡ i = omega (arith, l, k) in
          subst (λ j. has_name (record { sort = a.sort; num = j }) (used ++ a ∷ []) ≡ true) same (brought_used used a)
    ] refl

-- so the next search for a name of that sort starts behind it
pub next_start : {S : Type 0} (used more : List Name) (sort num : ℕ) (starts after : IndexMap ℕ ℕ S) → SkipsUsed used starts → AreUsedBelow used sort num
    → more ≡ used ++ (record { sort = sort; num = num }) ∷ [] → ((other : ℕ) → get nat_eq after other ≡ cond (nat_eq sort other) (Some (num + 1)) (get nat_eq starts other))
    → SkipsUsed more after
next_start used more sort num starts after skips least m updates other n there =
    let a : Name = record { sort = sort; num = num } in
    subst (λ us. AreUsedBelow us other n) (sym m)
    (elim (nat_eq sort other) as (λ v. nat_eq sort other ≡ v → cond v (Some (num + 1)) (get nat_eq starts other) ≡ Some n → AreUsedBelow (used ++ a ∷ []) other n) [
      | true ↦ λ e k.
          let same : sort ≡ other = eqb-true sort other e in
          let one : num + 1 ≡ n = cc in
          subst (λ s. AreUsedBelow (used ++ a ∷ []) s n) same (subst (AreUsedBelow (used ++ a ∷ []) sort) one (used_up_to used a least))
      | false ↦ λ e k i l. still_used used a (record { sort = other; num = i }) (skips other n k i l)
    ] refl (sym (updates other) ∙ there))

-- where a search starts, all before are used
pub from_start : {S : Type 0} (used : List Name) (starts : IndexMap ℕ ℕ S) → SkipsUsed used starts → (sort from : ℕ) → from ≡ unwrap_or (get nat_eq starts sort) 0 → AreUsedBelow used sort from
from_start used starts skips sort from e =
    subst (AreUsedBelow used sort) (sym e)
    (elim (get nat_eq starts sort) as (λ o. get nat_eq starts sort ≡ o → AreUsedBelow used sort (unwrap_or o 0)) [
      | None ↦ λ k i l. absurd (omega (arith, l))
      | Some n ↦ λ k. skips sort n k
    ] refl)

-- and one name more is exchanged
pub next_exchange : (used more_used start rest others whole : List Name) (c : Name) (s : Swap) (ss more : List Swap)
    → rest ≡ c ∷ others → more ≡ ss ++ s ∷ [] → Takes used c s → more_used ≡ used ++ right_name s ∷ []
    → ((tail : List Swap) → Clears used rest tail → Clears start whole (ss ++ tail)) → (tail : List Swap) → Clears more_used others tail → Clears start whole (more ++ tail)
next_exchange used more_used start rest others whole c s ss more r m takes u before tail h =
    subst (Clears start whole) (sym (ap (λ l. l ++ tail) m ∙ append_assoc ss (s ∷ []) tail))
    (before (s ∷ tail) (subst (λ cs. Clears used cs (s ∷ tail)) (sym r) (takes, subst (λ us. Clears us others tail) u h)))

-- only which names are used matters
pub clears_same : (us vs : List Name) → ((b : Name) → has_name b us ≡ has_name b vs) → (cs : List Name) (ss : List Swap) → Clears us cs ss → Clears vs cs ss
clears_same us vs e [] [] h = tt
clears_same us vs e (c ∷ cs) (s ∷ ss) h =
    let a = right_name s in (
      record {
        sort = h.0.sort;
        left = h.0.left;
        next = record {
          unused = sym (e a) ∙ h.0.next.unused;
          least = λ i l. sym (e (record { sort = s.sort; num = i })) ∙ h.0.next.least i l;
        };
      },
      clears_same (us ++ a ∷ []) (vs ++ a ∷ []) (λ b. has_brought us a b ∙ ap (λ v. v || (name_eq b a || false)) (e b) ∙ sym (has_brought vs a b)) cs ss h.1,
    )
clears_same us vs e [] (s ∷ ss) h = absurd h
clears_same us vs e (c ∷ cs) [] h = absurd h

either_way : (l a : Bool) (t : Bool) → ((l || (a && not l)) || t) ≡ (l || (a || t))
either_way true a t = refl
either_way false true t = refl
either_way false false t = refl

has_more : (ks xs : List Name) (b : Name) → has_name b (more_names ks xs) ≡ (has_name b ks || has_name b xs)
has_more ks xs b = has_name-append b ks (first_names ks xs) ∙ ap (λ v. has_name b ks || v) (has_first_names ks xs b) ∙ joined (has_name b ks) (has_name b xs)
  where
    joined : (k x : Bool) → (k || (x && not k)) ≡ (k || x)
    joined true x = refl
    joined false true = refl
    joined false false = refl

filter_same : (f g : Name → Bool) (xs : List Name) → ((b : Name) → f b ≡ g b) → filter f xs ≡ filter g xs
filter_same f g [] h = refl
filter_same f g (x ∷ xs) h = ap₂ (λ v l. if v then (x ∷ l) else l) (h x) (filter_same f g xs h)

-- from the names that are known
pub clears_known : (locals : List NominalLocal) (a : NominalAnswer) (ts : List NominalTerm) (known there used found : List Name) (free : ℕ)
    → known ≡ local_names 0 locals ++ other_names locals a → free ≡ length (local_names 0 locals) → there ≡ more_names [] (names_of_terms ts)
    → found ≡ filter (λ b. has_name b there) (drop free known) → used ≡ more_names known (names_of_terms ts)
    → (ss : List Swap) → Clears used found ss → Clears (used_names locals a ts) (in_the_way locals a ts) ss
clears_known locals a ts known there used found free k f t w u ss h =
    let query = local_names 0 locals in
    let others = other_names locals a in
    let ns = names_of_terms ts in
    let same_used : (b : Name) → has_name b used ≡ has_name b (used_names locals a ts) = λ b.
    ap (has_name b) u ∙ has_more known ns b
    ∙ ap (λ v. v || has_name b ns) (ap (has_name b) k ∙ has_name-append b query others ∙ ap (λ v. has_name b query || v) (has_first_names query (names_of_answer a) b))
    ∙ either_way (has_name b query) (has_name b (names_of_answer a)) (has_name b ns)
    ∙ ap (λ v. has_name b query || v) (sym (has_name-append b (names_of_answer a) ns)) ∙ sym (has_name-append b query (names_of_answer a ++ ns)) in
    let same_found : found ≡ in_the_way locals a ts =
    w ∙ ap (filter (λ b. has_name b there)) (ap₂ drop f k ∙ drop-append_seam query others)
    ∙ filter_same (λ b. has_name b there) (λ b. has_name b ns) others (λ b. ap (has_name b) t ∙ has_more [] ns b) in
    clears_same used (used_names locals a ts) same_used (in_the_way locals a ts) ss (subst (λ cs. Clears used cs ss) same_found h)

-- WHAT THEY ARE

abbrev pub brought : List Swap → List Name
brought ss = map right_name ss

are_of_sorts : (used cs : List Name) (ss : List Swap) → Clears used cs ss → AreOfSorts cs (brought ss)
are_of_sorts used [] [] h = tt
are_of_sorts used (c ∷ cs) (s ∷ ss) h = (h.0.sort, are_of_sorts (used ++ right_name s ∷ []) cs ss h.1)
are_of_sorts used [] (s ∷ ss) h = absurd h
are_of_sorts used (c ∷ cs) [] h = absurd h

same_swap : (c : Name) (s : Swap) → s.sort ≡ c.sort → s.left ≡ c.num → s ≡ swap_of c (right_name s)
same_swap c s e k = ap₂ (λ i j. record { sort = i; left = j; right = s.right }) e k

are_exchanges : (used cs : List Name) (ss : List Swap) → Clears used cs ss → ss ≡ exchange cs (brought ss)
are_exchanges used [] [] h = refl
are_exchanges used (c ∷ cs) (s ∷ ss) h = ap₂ ◌∷◌ (same_swap c s h.0.sort h.0.left) (are_exchanges (used ++ right_name s ∷ []) cs ss h.1)
are_exchanges used [] (s ∷ ss) h = absurd h
are_exchanges used (c ∷ cs) [] h = absurd h

-- those that come are none of those that are used
pub are_unused : (used cs : List Name) (ss : List Swap) → Clears used cs ss → (b : Name) → has_name b (brought ss) ≡ true → has_name b used ≡ false
are_unused used [] [] h b i = absurd (true≢false (sym i))
are_unused used (c ∷ cs) (s ∷ ss) h b i =
    elim (or_cases (name_eq b (right_name s)) (has_name b (brought ss)) i) [
      | inl e ↦ ap (λ a. has_name a used) (name_eq_same b (right_name s) e) ∙ h.0.next.unused
      | inr e ↦ not_used_before used (right_name s) b (are_unused (used ++ right_name s ∷ []) cs ss h.1 b e)
    ]
are_unused used [] (s ∷ ss) h b i = absurd h
are_unused used (c ∷ cs) [] h b i = absurd h

-- and each is used when a later one comes
are_different : (used cs : List Name) (ss : List Swap) → Clears used cs ss → AreDifferent (brought ss)
are_different used [] [] h = tt
are_different used (c ∷ cs) (s ∷ ss) h =
    let a = right_name s in (
      false_if_not (has_name a (brought ss)) (λ i. true≢false (sym (brought_used used a) ∙ are_unused (used ++ a ∷ []) cs ss h.1 a i)),
      are_different (used ++ a ∷ []) cs ss h.1,
    )
are_different used [] (s ∷ ss) h = absurd h
are_different used (c ∷ cs) [] h = absurd h

-- SOME OF THE NAMES

module _ (keep : Name → Bool) where
  has_kept : (as' : List Name) (a : Name) → has_name a (filter keep as') ≡ true → (keep a ≡ true) × (has_name a as' ≡ true)
  has_kept [] a h = absurd (true≢false (sym h))
  has_kept (b ∷ bs) a h =
      elim (keep b) as (λ v. keep b ≡ v → has_name a (if v then (b ∷ filter keep bs) else filter keep bs) ≡ true → (keep a ≡ true) × (has_name a (b ∷ bs) ≡ true)) [
        | true ↦ λ e k. elim (or_cases (name_eq a b) (has_name a (filter keep bs)) k) [
          | inl i ↦ (ap keep (name_eq_same a b i) ∙ e, or_if_left (name_eq a b) (has_name a bs) i)
          | inr i ↦ let r = has_kept bs a i in (r.0, or_if_right (name_eq a b) (has_name a bs) r.1)
        ]
        | false ↦ λ e k. let r = has_kept bs a k in (r.0, or_if_right (name_eq a b) (has_name a bs) r.1)
      ] refl h

  kept_has : (as' : List Name) (a : Name) → keep a ≡ true → has_name a as' ≡ true → has_name a (filter keep as') ≡ true
  kept_has [] a h k = k
  kept_has (b ∷ bs) a h k =
      elim (keep b) as (λ v. keep b ≡ v → has_name a (if v then (b ∷ filter keep bs) else filter keep bs) ≡ true) [
        | true ↦ λ e. elim (or_cases (name_eq a b) (has_name a bs) k) [
          | inl i ↦ or_if_left (name_eq a b) (has_name a (filter keep bs)) i
          | inr i ↦ or_if_right (name_eq a b) (has_name a (filter keep bs)) (kept_has bs a h i)
        ]
        | false ↦ λ e. elim (or_cases (name_eq a b) (has_name a bs) k) [
          | inl i ↦ absurd (true≢false (sym h ∙ ap keep (name_eq_same a b i) ∙ e))
          | inr i ↦ kept_has bs a h i
        ]
      ] refl

  kept_different : (as' : List Name) → AreDifferent as' → AreDifferent (filter keep as')
  kept_different [] h = tt
  kept_different (b ∷ bs) h =
      elim (keep b) as (λ v. AreDifferent (if v then (b ∷ filter keep bs) else filter keep bs)) [
        | true ↦ (false_if_not (has_name b (filter keep bs)) (λ i. true≢false (sym (has_kept bs b i).1 ∙ h.0)), kept_different bs h.1)
        | false ↦ kept_different bs h.1
      ]

-- NAMES THAT STAND IN NO TERM

absent_then : (a : Name) (t : NominalTerm) (as' : List Name) → has_name a (names_then t as') ≡ false → (fresh a (grounded (λ x. terms.unit) t) ≡ true) × (has_name a as' ≡ false)
absent_then a terms.unit as' h = (refl, h)
absent_then a (terms.name b) as' h = let k = or_false (name_eq a b) (has_name a as') h in (ap not k.0, k.1)
absent_then a (terms.pair t u) as' h =
    let k = absent_then a t (names_then u as') h in
    let l = absent_then a u as' k.1 in
    (and_both (fresh a (grounded (λ x. terms.unit) t)) (fresh a (grounded (λ x. terms.unit) u)) k.0 l.0, l.1)
absent_then a (terms.app f t) as' h = absent_then a t as' h
absent_then a (terms.abs b t) as' h =
    let k = or_false (name_eq a b) (has_name a (names_then t as')) h in
    let l = absent_then a t as' k.1 in
    (or_if_right (name_eq a b) (fresh a (grounded (λ x. terms.unit) t)) l.0, l.1)
absent_then a (terms.susp p x) as' h = (refl, (or_false (has_name a (names_of p)) (has_name a as') (sym (has_name-append a (names_of p) as') ∙ h)).1)

absent_each : (a : Name) (ts : List NominalTerm) → has_name a (names_of_terms ts) ≡ false → FreshForTerms a (ground_terms ts)
absent_each a [] h = tt
absent_each a (t ∷ ts) h = let k = absent_then a t (names_of_terms ts) h in (k.0, absent_each a ts k.1)

-- SO THEY TAKE APART

module _ (locals : List NominalLocal) (a : NominalAnswer) (ts : List NominalTerm) (ss : List Swap) (clears : Clears (used_names locals a ts) (in_the_way locals a ts) ss) where
  abbrev query : List Name
  query = local_names 0 locals

  abbrev used : List Name
  used = used_names locals a ts

  abbrev way : List Name
  way = in_the_way locals a ts

  abbrev stands : Name → Bool
  stands b = has_name b (names_of_terms ts)

  in_query : (b : Name) → has_name b query ≡ true → has_name b used ≡ true
  in_query b h = has_name-append b query (names_of_answer a ++ names_of_terms ts) ∙ or_if_left (has_name b query) (has_name b (names_of_answer a ++ names_of_terms ts)) h

  in_answer : (b : Name) → has_name b (names_of_answer a) ≡ true → has_name b used ≡ true
  in_answer b h =
      has_name-append b query (names_of_answer a ++ names_of_terms ts)
      ∙ or_if_right (has_name b query) (has_name b (names_of_answer a ++ names_of_terms ts))
      (has_name-append b (names_of_answer a) (names_of_terms ts) ∙ or_if_left (has_name b (names_of_answer a)) (stands b) h)

  not_in_terms : (b : Name) → has_name b used ≡ false → stands b ≡ false
  not_in_terms b h =
      let k = (or_false (has_name b query) (has_name b (names_of_answer a ++ names_of_terms ts)) (sym (has_name-append b query (names_of_answer a ++ names_of_terms ts)) ∙ h)).1 in
      (or_false (has_name b (names_of_answer a)) (stands b) (sym (has_name-append b (names_of_answer a) (names_of_terms ts)) ∙ k)).1

  other : (b : Name) → has_name b (other_names locals a) ≡ (has_name b (names_of_answer a) && not (has_name b query))
  other b = has_first_names query (names_of_answer a) b

  way_other : (b : Name) → has_name b way ≡ true → (has_name b (names_of_answer a) ≡ true) × (has_name b query ≡ false)
  way_other b h =
      let k = sym (other b) ∙ (has_kept stands (other_names locals a) b h).1 in
      (and_left (has_name b (names_of_answer a)) (not (has_name b query)) k, negated (has_name b query) (and_right (has_name b (names_of_answer a)) (not (has_name b query)) k))
    where
      negated : (v : Bool) → not v ≡ true → v ≡ false
      negated true e = absurd (true≢false (sym e))
      negated false e = refl

  came_unused : (b : Name) → has_name b used ≡ true → has_name b (brought ss) ≡ false
  came_unused b h = false_if_not (has_name b (brought ss)) (λ i. true≢false (sym h ∙ are_unused used way ss clears b i))

  exchangeable : Exchangeable way (brought ss)
  exchangeable = (
    are_of_sorts used way ss clears,
    kept_different stands (other_names locals a) (first_names_different query (names_of_answer a)),
    are_different used way ss clears,
    λ b h. came_unused b (in_answer b (way_other b h).0),
  )

  acts : (b : Name) → act_name ss b ≡ act_name (exchange way (brought ss)) b
  acts b = ap (λ s. act_name s b) (are_exchanges used way ss clears)

  stays : (b : Name) → has_name b used ≡ true → has_name b way ≡ false → act_name ss b ≡ b
  stays b h k = acts b ∙ exchange_other way (brought ss) b exchangeable.0 k (came_unused b h)

  goes_away : (b : Name) → has_name b way ≡ true → stands (act_name ss b) ≡ false
  goes_away b h =
      let x = exchange way (brought ss) in
      let there : has_name (act_name x b) (brought ss) ≡ true = ap (has_name (act_name x b)) (sym (exchange_goes way (brought ss) exchangeable)) ∙ has_act x b way ∙ h in
      ap stands (acts b) ∙ not_in_terms (act_name x b) (are_unused used way ss clears (act_name x b) there)

  pub clears_apart : TakesApart locals a (ground_terms ts) ss
  clears_apart = record {
    leaves = λ b h. stays b (in_query b h) (false_if_not (has_name b way) (λ i. true≢false (sym h ∙ (way_other b i).1)));
    apart = λ b h k.
        absent_each (act_name ss b) ts
        (elim (has_name b way) as (λ v. has_name b way ≡ v → stands (act_name ss b) ≡ false) [
          | true ↦ λ e. goes_away b e
          | false ↦ λ e.
              ap stands (stays b (in_answer b h) e)
              ∙ false_if_not (stands b) (λ i. true≢false (sym (kept_has stands (other_names locals a) b i (other b ∙ and_both (has_name b (names_of_answer a)) (not (has_name b query)) h (ap not k))) ∙ e))
        ] refl);
  }
