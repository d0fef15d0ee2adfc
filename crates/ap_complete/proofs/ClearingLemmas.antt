-- Names that are in the way are exchanged for new ones.
use Rattle.std.proofs.Common.{◌≡◌, ◌<◌, ◌≤◌, ℕ, Bool, true, false, List, [], ◌∷◌, ◌++◌, map, refl, sym, ap, ◌∙◌, inl, inr, arith, true≢false}
use Rattle.std.specs.Prelude.{not, if◌then◌else◌}
use Rattle.ap_defs.specs.Alpha.{alpha, fresh}
use Rattle.ap_defs.specs.GroundProofs.{AreOfSorts}
use Rattle.ap_defs.specs.Permutations.{act_name, has_name, name_eq, swap_of}
use Rattle.ap_defs.specs.Printing.{first_names}
use Rattle.ap_defs.specs.Terms.{GroundTerm, abs, act_ground, app, name, pair, unit}
use Rattle.ap_defs.specs.declared.terms.Name.{Name}
use Rattle.ap_defs.specs.declared.terms.Swap.{Swap}
use Rattle.ap_theory.specs.Exchanges.{exchange, new_names}
use Rattle.ap_theory.specs.StatementsOnExchanges.{Exchangeable}
use Rattle.ap_theory.specs.StatementsOnReplacement.{ground_names_then}
use Rattle.ap_theory.proofs.BooleanLemmas.{and_both, and_left, false_if_not, or_cases, or_false, or_if_left, or_if_right}
use Rattle.ap_theory.proofs.DisagreementLemmas.{has_front, has_name-append}
use Rattle.ap_theory.proofs.ExchangeLemmas.{exchange_exchange, exchange_goes, exchange_other, new_names_apart, new_names_different, new_names_high, new_names_sorts}
use Rattle.ap_theory.proofs.GroundLemmas.{act_ground-append, act_ground_none, alpha_act, alpha_itself, alpha_swap_fresh, alpha_trans, fresh_act}
use Rattle.ap_theory.proofs.PermutationLemmas.{act-append, name_eq_same}
use Rattle.ap_ground.proofs.ListLemmas.{first_names_different, has_first_names}
use Rattle.ap_ground.proofs.ProofActionLemmas.{has_act}
use Rattle.ap_complete.specs.NumberedProofs.{IsAmong}
use Rattle.ap_complete.specs.StatementsOnFreshness.{FreshForTerms}

-- the names of ground terms
abbrev pub grounds_names : List GroundTerm → List Name
grounds_names [] = []
grounds_names (g ∷ gs) = ground_names_then g (grounds_names gs)

absent_then : (a : Name) (t : GroundTerm) (as' : List Name) → has_name a (ground_names_then t as') ≡ false → (fresh a t ≡ true) × (has_name a as' ≡ false)
absent_then a unit as' h = (refl, h)
absent_then a (name b) as' h = let k = or_false (name_eq a b) (has_name a as') h in (ap not k.0, k.1)
absent_then a (pair t u) as' h =
    let k = absent_then a t (ground_names_then u as') h in
    let l = absent_then a u as' k.1 in
    (and_both (fresh a t) (fresh a u) k.0 l.0, l.1)
absent_then a (app f t) as' h = absent_then a t as' h
absent_then a (abs b t) as' h =
    let k = or_false (name_eq a b) (has_name a (ground_names_then t as')) h in
    let l = absent_then a t as' k.1 in
    (or_if_right (name_eq a b) (fresh a t) l.0, l.1)

pub absent_each : (a : Name) (gs : List GroundTerm) → has_name a (grounds_names gs) ≡ false → FreshForTerms a gs
absent_each a [] h = tt
absent_each a (g ∷ gs) h = let k = absent_then a g (grounds_names gs) h in (k.0, absent_each a gs k.1)

pub fresh_among : (a : Name) (g : GroundTerm) (gs : List GroundTerm) → IsAmong g gs → FreshForTerms a gs → fresh a g ≡ true
fresh_among a g [] i h = absurd i
fresh_among a g (u ∷ us) (inl e) h = ap (fresh a) (sym e) ∙ h.0
fresh_among a g (u ∷ us) (inr i) h = fresh_among a g us i h.1

-- an exchange of names that are fresh for a term leaves it
pub exchange_leaves : (cs ds : List Name) (t : GroundTerm) → AreOfSorts cs ds → ((a : Name) → has_name a cs ≡ true → fresh a t ≡ true)
    → ((a : Name) → has_name a ds ≡ true → fresh a t ≡ true) → alpha (act_ground (exchange cs ds) t) t ≡ true
exchange_leaves [] [] t s h k = ap (λ u. alpha u t) (act_ground_none t) ∙ alpha_itself t
exchange_leaves (c ∷ cs) (d ∷ ds) t s h k =
    let w = swap_of c d ∷ [] in
    let rest = act_ground (exchange cs ds) t in
    let inner = exchange_leaves cs ds t s.1 (λ a i. h a (or_if_right (name_eq a c) (has_name a cs) i)) (λ a i. k a (or_if_right (name_eq a d) (has_name a ds) i)) in
    ap (λ u. alpha u t) (act_ground-append w (exchange cs ds) t)
    ∙ alpha_trans (act_ground w rest) (act_ground w t) t (alpha_act w rest t ∙ inner) (alpha_swap_fresh c d t (sym s.0) (h c (has_front c cs)) (k d (has_front d ds)))
exchange_leaves _ _ t s h k = absurd s

-- those of the names that pass a test
abbrev passing : (Name → Bool) → List Name → List Name
passing bad [] = []
passing bad (a ∷ as') = if bad a then (a ∷ passing bad as') else passing bad as'

passing_bad : (bad : Name → Bool) (as' : List Name) (a : Name) → has_name a (passing bad as') ≡ true → bad a ≡ true
passing_bad bad [] a h = absurd (true≢false (sym h))
passing_bad bad (b ∷ bs) a h =
    elim (bad b) as (λ v. bad b ≡ v → has_name a (if v then (b ∷ passing bad bs) else passing bad bs) ≡ true → bad a ≡ true) [
      | true ↦ λ e k. elim (or_cases (name_eq a b) (has_name a (passing bad bs)) k) [ inl i ↦ ap bad (name_eq_same a b i) ∙ e | inr i ↦ passing_bad bad bs a i ]
      | false ↦ λ e k. passing_bad bad bs a k
    ] refl h

passing_has : (bad : Name → Bool) (as' : List Name) (a : Name) → bad a ≡ true → has_name a as' ≡ true → has_name a (passing bad as') ≡ true
passing_has bad [] a h k = k
passing_has bad (b ∷ bs) a h k =
    elim (bad b) as (λ v. bad b ≡ v → has_name a (if v then (b ∷ passing bad bs) else passing bad bs) ≡ true) [
      | true ↦ λ e. elim (or_cases (name_eq a b) (has_name a bs) k) [
        | inl i ↦ or_if_left (name_eq a b) (has_name a (passing bad bs)) i
        | inr i ↦ or_if_right (name_eq a b) (has_name a (passing bad bs)) (passing_has bad bs a h i)
      ]
      | false ↦ λ e. elim (or_cases (name_eq a b) (has_name a bs) k) [
        | inl i ↦ absurd (true≢false (sym (sym (ap bad (name_eq_same a b i)) ∙ h) ∙ e))
        | inr i ↦ passing_has bad bs a h i
      ]
    ] refl

-- A permutation takes the names that are in the way out of some terms. It leaves the other names below a number, and terms for which
-- the names in the way are fresh.
pub record Clearing (bad : Name → Bool) (m : ℕ) (gs others : List GroundTerm) : Type 0 where
  pub perm : List Swap
  pub cleared : (a : Name) → bad a ≡ true → FreshForTerms a (map (act_ground perm) gs)
  pub fixed : (a : Name) → bad a ≡ false → a.num < m → act_name perm a ≡ a
  pub left : (t : GroundTerm) → IsAmong t others → ((a : Name) → bad a ≡ true → fresh a t ≡ true) → alpha (act_ground perm t) t ≡ true

module _ (bad : Name → Bool) (m : ℕ) (low : (a : Name) → bad a ≡ true → a.num < m) (gs others : List GroundTerm) where
  abbrev moved : List Name
  moved = first_names [] (passing bad (grounds_names gs))

  abbrev there : List Name
  there = grounds_names gs ++ grounds_names others

  abbrev avoided : List Name
  avoided = moved ++ there

  abbrev news : List Name
  news = new_names moved avoided m

  abbrev clear : List Swap
  clear = exchange moved news

  moved_bad : (a : Name) → has_name a moved ≡ true → bad a ≡ true
  moved_bad a h = passing_bad bad (grounds_names gs) a (and_left (has_name a (passing bad (grounds_names gs))) true (sym (has_first_names [] (passing bad (grounds_names gs)) a) ∙ h))

  bad_moved : (a : Name) → bad a ≡ true → has_name a (grounds_names gs) ≡ true → has_name a moved ≡ true
  bad_moved a h k =
      has_first_names [] (passing bad (grounds_names gs)) a ∙ and_both (has_name a (passing bad (grounds_names gs))) true (passing_has bad (grounds_names gs) a h k) refl

  new_high : (a : Name) → a.num < m → has_name a news ≡ false
  new_high a l = false_if_not (has_name a news) (λ h. let k : m ≤ a.num = new_names_high moved avoided m a h in omega arith)

  exchangeable : Exchangeable moved news
  exchangeable = (
    new_names_sorts moved avoided m,
    first_names_different [] (passing bad (grounds_names gs)),
    new_names_different moved avoided m,
    λ a h. new_high a (low a (moved_bad a h)),
  )

  twice : (a : Name) → act_name clear (act_name clear a) ≡ a
  twice a = sym (act-append clear clear a) ∙ exchange_exchange moved news exchangeable a

  -- a name in the way comes from one that stands nowhere
  from_absent : (a : Name) → bad a ≡ true → has_name (act_name clear a) (grounds_names gs) ≡ false
  from_absent a h =
      elim (has_name a moved) as (λ v. has_name a moved ≡ v → has_name (act_name clear a) (grounds_names gs) ≡ false) [
        | true ↦ λ e.
            let new : has_name (act_name clear a) news ≡ true = ap (has_name (act_name clear a)) (sym (exchange_goes moved news exchangeable)) ∙ has_act clear a moved ∙ e in
            let absent = new_names_apart moved avoided m (act_name clear a) new in
            let rest = (or_false _ _ (sym (has_name-append (act_name clear a) moved there) ∙ absent)).1 in
            (or_false _ _ (sym (has_name-append (act_name clear a) (grounds_names gs) (grounds_names others)) ∙ rest)).0
        | false ↦ λ e.
            ap (λ b. has_name b (grounds_names gs)) (exchange_other moved news a exchangeable.0 e (new_high a (low a h)))
            ∙ false_if_not (has_name a (grounds_names gs)) (λ k. true≢false (sym (bad_moved a h k) ∙ e))
      ] refl

  cleared_each : (a b : Name) → act_name clear b ≡ a → (us : List GroundTerm) → FreshForTerms b us → FreshForTerms a (map (act_ground clear) us)
  cleared_each a b e [] h = tt
  cleared_each a b e (u ∷ us) h = (ap (λ c. fresh c (act_ground clear u)) (sym e) ∙ fresh_act clear b u ∙ h.0, cleared_each a b e us h.1)

  new_fresh : (t : GroundTerm) → IsAmong t others → (a : Name) → has_name a news ≡ true → fresh a t ≡ true
  new_fresh t i a h =
      let rest = (or_false _ _ (sym (has_name-append a moved there) ∙ new_names_apart moved avoided m a h)).1 in
      fresh_among a t others i (absent_each a others (or_false _ _ (sym (has_name-append a (grounds_names gs) (grounds_names others)) ∙ rest)).1)

  pub clearing : Clearing bad m gs others
  clearing = record {
    perm = clear;
    cleared = λ a h. cleared_each a (act_name clear a) (twice a) gs (absent_each (act_name clear a) gs (from_absent a h));
    fixed = λ a h l. exchange_other moved news a exchangeable.0 (false_if_not (has_name a moved) (λ k. true≢false (sym (moved_bad a k) ∙ h))) (new_high a l);
    left = λ t i h. exchange_leaves moved news t exchangeable.0 (λ a k. h a (moved_bad a k)) (new_fresh t i);
  }
