-- Each set of types that is closed has all that the rounds find.
use Rattle.std.proofs.Common.{◌≡◌, ℕ, zero, suc, Bool, true, List, [], ◌∷◌, inl, inr, subst, sym}
use Rattle.std.proofs.lemmas.Bool.Decides.{eqb_tells}
use Rattle.ap_defs.specs.Types.{NominalType, NominalConstructor, unit, names, base, pair, list, abs}
use Rattle.ap_types.specs.Holding.{MayHold, holds_if, some_holds}
use Rattle.ap_types.specs.Inhabited.{IsInhabited, all_inhabited, inhabited_if}
use Rattle.ap_types.specs.Rounds.{reached}
use Rattle.ap_types.proofs.BooleanLemmas.{and_left, and_right, or_cases}
use Rattle.ap_types.specs.Closed.{HasEach, HasSome, IsHoldingSet, IsInhabitedSet}
use Rattle.ap_types.specs.StatementsOnInhabited.{HoldingIsLeast, InhabitedIsLeast}
use Rattle.ap_types.proofs.LeastRuleLemmas.{passing}

module _ (cs : List NominalConstructor) (P : NominalType → Type 0) (closed : IsInhabitedSet cs P) where
  type_is_in : (p : ℕ → Bool) → ((d : ℕ) → p d ≡ true → P (base d)) → (t : NominalType) → inhabited_if p t ≡ true → P t
  type_is_in p h unit e = closed.for_unit
  type_is_in p h (names s) e = closed.for_names s
  type_is_in p h (base d) e = h d e
  type_is_in p h (pair t u) e =
      closed.for_pairs t u (type_is_in p h t (and_left (inhabited_if p t) (inhabited_if p u) e)) (type_is_in p h u (and_right (inhabited_if p t) (inhabited_if p u) e))
  type_is_in p h (list t) e = closed.for_lists t
  type_is_in p h (abs s t) e = closed.for_abstractions s t (type_is_in p h t e)

  types_are_in : (p : ℕ → Bool) → ((d : ℕ) → p d ≡ true → P (base d)) → (ts : List NominalType) → all_inhabited p ts ≡ true → HasEach P ts
  types_are_in p h [] e = tt
  types_are_in p h (t ∷ ts) e =
      (type_is_in p h t (and_left (inhabited_if p t) (all_inhabited p ts) e), types_are_in p h ts (and_right (inhabited_if p t) (all_inhabited p ts) e))

  data_is_in : (r d : ℕ) → reached all_inhabited cs r d ≡ true → P (base d)
  data_is_in zero d e = cc
  data_is_in (suc r) d e =
      let k = passing all_inhabited (reached all_inhabited cs r) cs d e in
      subst (λ (x : ℕ). P (base x)) k.result
      (closed.for_data (suc (suc k.number)) k.constructor k.at (types_are_in (reached all_inhabited cs r) (data_is_in r) k.constructor.args k.passes))

pub in_each_inhabited_set : (cs : List NominalConstructor) (P : NominalType → Type 0) → IsInhabitedSet cs P → (t : NominalType) → IsInhabited cs t → P t
in_each_inhabited_set cs P closed t h = type_is_in cs P closed (reached all_inhabited cs h.0) (data_is_in cs P closed h.0) t h.1

module _ (cs : List NominalConstructor) (sort : ℕ) (P : NominalType → Type 0) (closed : IsHoldingSet cs sort P) where
  holding_is_in : (p : ℕ → Bool) → ((d : ℕ) → p d ≡ true → P (base d)) → (t : NominalType) → holds_if sort p t ≡ true → P t
  holding_is_in p h unit e = cc
  holding_is_in p h (names s) e = elim (eqb_tells s sort) [
    | inl w ↦ subst (λ (x : ℕ). P (names x)) (sym w.1) closed.for_names
    | inr w ↦ cc
  ]
  holding_is_in p h (base d) e = h d e
  holding_is_in p h (pair t u) e = closed.for_pairs t u (elim (or_cases (holds_if sort p t) (holds_if sort p u) e) [
    | inl k ↦ inl (holding_is_in p h t k)
    | inr k ↦ inr (holding_is_in p h u k)
  ])
  holding_is_in p h (list t) e = closed.for_lists t (holding_is_in p h t e)
  holding_is_in p h (abs s t) e = closed.for_abstractions s t (holding_is_in p h t e)

  some_is_in : (p : ℕ → Bool) → ((d : ℕ) → p d ≡ true → P (base d)) → (ts : List NominalType) → some_holds sort p ts ≡ true → HasSome P ts
  some_is_in p h [] e = cc
  some_is_in p h (t ∷ ts) e = elim (or_cases (holds_if sort p t) (some_holds sort p ts) e) [
    | inl k ↦ inl (holding_is_in p h t k)
    | inr k ↦ inr (some_is_in p h ts k)
  ]

  holding_data_is_in : (r d : ℕ) → reached (some_holds sort) cs r d ≡ true → P (base d)
  holding_data_is_in zero d e = cc
  holding_data_is_in (suc r) d e =
      let k = passing (some_holds sort) (reached (some_holds sort) cs r) cs d e in
      subst (λ (x : ℕ). P (base x)) k.result
      (closed.for_data (suc (suc k.number)) k.constructor k.at (some_is_in (reached (some_holds sort) cs r) (holding_data_is_in r) k.constructor.args k.passes))

pub in_each_holding_set : (cs : List NominalConstructor) (sort : ℕ) (P : NominalType → Type 0) → IsHoldingSet cs sort P → (t : NominalType) → MayHold cs t sort → P t
in_each_holding_set cs sort P closed t h = holding_is_in cs sort P closed (reached (some_holds sort) cs h.0) (holding_data_is_in cs sort P closed h.0) t h.1

pub inhabited_least : InhabitedIsLeast
inhabited_least cs has = in_each_inhabited_set cs (λ t. has t ≡ true)

pub holding_least : HoldingIsLeast
holding_least cs sort has = in_each_holding_set cs sort (λ t. has t ≡ true)
