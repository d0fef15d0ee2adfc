-- Constructors that pass, and the closure of the two sets of types.
use Rattle.std.proofs.Common.{◌≡◌, ◌≤◌, ◌+◌, ◌⊎◌, ℕ, zero, suc, Bool, true, List, [], ◌∷◌, ◌&&◌, ◌||◌, refl, inl, inr, arith}
use Rattle.std.specs.Prelude.{◌==◌, Some}
use Rattle.std.proofs.lemmas.Bool.Decides.{eqb_tells}
use Rattle.ap_defs.specs.Printing.{constructor_in}
use Rattle.ap_defs.specs.Types.{NominalType, NominalConstructor}
use Rattle.ap_types.specs.Holding.{MayHold, holds_if, some_holds}
use Rattle.ap_types.specs.Inhabited.{IsInhabited, all_inhabited, inhabited_if}
use Rattle.ap_types.specs.Rounds.{Test, reached, some_passes}
use Rattle.ap_types.proofs.BooleanLemmas.{and_both, and_left, and_right, or_cases, or_if_left, or_if_right}
use Rattle.ap_types.proofs.QuestionLemmas.{all_inhabited_grows, inhabited_grows}
use Rattle.ap_types.proofs.RoundLemmas.{reached_more}
use Rattle.ap_types.proofs.RuleLemmas.{same_numbers}
use Rattle.ap_types.specs.Closed.{HasEach, HasSome, IsHoldingSet, IsInhabitedSet}
use Rattle.ap_types.specs.StatementsOnInhabited.{HoldingIsClosed, InhabitedIsClosed}

-- A constructor whose arguments pass puts its data type in.
pub passes : (test : Test) (p : ℕ → Bool) (ds : List NominalConstructor) (f : ℕ) (c : NominalConstructor)
    → constructor_in ds f ≡ Some c → test p c.args ≡ true → some_passes test p ds c.result ≡ true
passes test p [] f c e h = cc
passes test p (b ∷ ds) zero c e h = cc
passes test p (b ∷ ds) (suc zero) c e h = cc
passes test p (b ∷ ds) (suc (suc zero)) c e h =
    let i : b ≡ c = cc in
    or_if_left ((b.result == c.result) && test p b.args) (some_passes test p ds c.result)
    (and_both (b.result == c.result) (test p b.args) (same_numbers b.result c.result (cc)) (cc))
passes test p (b ∷ ds) (suc (suc (suc f))) c e h =
    or_if_right ((b.result == c.result) && test p b.args) (some_passes test p ds c.result) (passes test p ds (suc (suc f)) c e h)

-- What puts a data type in is a constructor of it whose arguments pass.
pub record Passing (test : Test) (p : ℕ → Bool) (ds : List NominalConstructor) (d : ℕ) : Type 0 where
  pub number : ℕ
  pub constructor : NominalConstructor
  pub at : constructor_in ds (suc (suc number)) ≡ Some constructor
  pub result : constructor.result ≡ d
  pub passes : test p constructor.args ≡ true

pub passing : (test : Test) (p : ℕ → Bool) (ds : List NominalConstructor) (d : ℕ) → some_passes test p ds d ≡ true → Passing test p ds d
passing test p [] d e = cc
passing test p (c ∷ ds) d e =
    elim (or_cases ((c.result == d) && test p c.args) (some_passes test p ds d) e) [
      | inl a ↦ elim (eqb_tells c.result d) [
        | inl w ↦ record { number = zero; constructor = c; at = refl; result = w.1; passes = and_right (c.result == d) (test p c.args) a }
        | inr w ↦ let no : (c.result == d) ≡ true = and_left (c.result == d) (test p c.args) a in cc
      ]
      | inr a ↦
          let k = passing test p ds d a in
          record { number = suc k.number; constructor = k.constructor; at = k.at; result = k.result; passes = k.passes }
    ]

module _ (cs : List NominalConstructor) where
  abbrev found : ℕ → ℕ → Bool
  found = reached all_inhabited cs

  inhabited_later : (r s : ℕ) → r ≤ s → (t : NominalType) → inhabited_if (found r) t ≡ true → inhabited_if (found s) t ≡ true
  inhabited_later r s l = inhabited_grows (found r) (found s) (reached_more all_inhabited all_inhabited_grows cs r s l)

  all_later : (r s : ℕ) → r ≤ s → (ts : List NominalType) → all_inhabited (found r) ts ≡ true → all_inhabited (found s) ts ≡ true
  all_later r s l = all_inhabited_grows (found r) (found s) (reached_more all_inhabited all_inhabited_grows cs r s l)

  -- types that are inhabited are so in one round
  each_inhabited : (ts : List NominalType) → HasEach (IsInhabited cs) ts → (r : ℕ) × (all_inhabited (found r) ts ≡ true)
  each_inhabited [] h = (zero, refl)
  each_inhabited (t ∷ ts) h =
      let k = each_inhabited ts h.1 in
      let r = h.0.0 + k.0 in
      (r, and_both (inhabited_if (found r) t) (all_inhabited (found r) ts) (inhabited_later h.0.0 r (omega arith) t h.0.1) (all_later k.0 r (omega arith) ts k.1))

  inhabited_set : IsInhabitedSet cs (IsInhabited cs)
  inhabited_set = record {
    for_unit = (zero, refl);
    for_names = λ s. (zero, refl);
    for_lists = λ t. (zero, refl);
    for_pairs = λ t u h k.
        let r = h.0 + k.0 in
        (r, and_both (inhabited_if (found r) t) (inhabited_if (found r) u) (inhabited_later h.0 r (omega arith) t h.1) (inhabited_later k.0 r (omega arith) u k.1));
    for_abstractions = λ s t h. h;
    for_data = λ f c e h.
        let k = each_inhabited c.args h in
        (suc k.0, passes all_inhabited (found k.0) cs f c e k.1);
  }

pub inhabited_closed : InhabitedIsClosed
inhabited_closed = inhabited_set

module _ (cs : List NominalConstructor) (sort : ℕ) where
  abbrev holding : ℕ → ℕ → Bool
  holding = reached (some_holds sort) cs

  -- where one of the types may hold the sort, some round finds one
  some_may_hold : (ts : List NominalType) → HasSome (λ t. MayHold cs t sort) ts → (r : ℕ) × (some_holds sort (holding r) ts ≡ true)
  some_may_hold [] h = absurd h
  some_may_hold (t ∷ ts) h = elim h [
    | inl k ↦ (k.0, or_if_left (holds_if sort (holding k.0) t) (some_holds sort (holding k.0) ts) k.1)
    | inr k ↦ let l = some_may_hold ts k in (l.0, or_if_right (holds_if sort (holding l.0) t) (some_holds sort (holding l.0) ts) l.1)
  ]

  pair_may_hold : (t u : NominalType) → MayHold cs t sort ⊎ MayHold cs u sort → (r : ℕ) × ((holds_if sort (holding r) t || holds_if sort (holding r) u) ≡ true)
  pair_may_hold t u h = elim h [
    | inl k ↦ (k.0, or_if_left (holds_if sort (holding k.0) t) (holds_if sort (holding k.0) u) k.1)
    | inr k ↦ (k.0, or_if_right (holds_if sort (holding k.0) t) (holds_if sort (holding k.0) u) k.1)
  ]

  holding_set : IsHoldingSet cs sort (λ t. MayHold cs t sort)
  holding_set = record {
    for_names = (zero, same_numbers sort sort refl);
    for_pairs = pair_may_hold;
    for_lists = λ t h. h;
    for_abstractions = λ s t h. h;
    for_data = λ f c e h.
        let k = some_may_hold c.args h in
        (suc k.0, passes (some_holds sort) (holding k.0) cs f c e k.1);
  }

pub holding_closed : HoldingIsClosed
holding_closed = holding_set
