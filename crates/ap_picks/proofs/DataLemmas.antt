-- What is picked for a data type is an application of the constructor that is chosen for it.
use Rattle.std.proofs.Common.{◌≡◌, ◌<◌, ◌⊎◌, ◌∙◌, ℕ, zero, suc, Bool, true, false, ◌&&◌, if◌then◌else◌, List, [], ◌∷◌, Option, Some, None, refl, sym, ap, subst, inl, inr, arith}
use Rattle.std.specs.Prelude.{◌==◌, ◌+◌, length, slice_get}
use Rattle.ap_defs.specs.Types.{NominalConstructor, NominalType}
use Rattle.ap_types.specs.Inhabited.{all_inhabited}
use Rattle.ap_types.specs.Rounds.{reached}
use Rattle.ap_types.proofs.BooleanLemmas.{and_right}
use Rattle.ap_types.proofs.QuestionLemmas.{all_inhabited_grows}
use Rattle.ap_types.proofs.RoundLemmas.{reached_more}
use Rattle.ap_picks.specs.Choices.{IsPickedChoice}
use Rattle.ap_picks.specs.Picks.{first_passing, pick_application, pick_data}
use Rattle.ap_picks.specs.Wants.{cost_application, cost_data}
use Rattle.ap_picks.specs.declared.choices.Choice.{Choice}

-- in which order two numbers stand
order : (m n : ℕ) → (m ≡ n) ⊎ ((m < n) ⊎ (n < m))
order m n = grind arith

-- the types of the arguments, if there are any, are inhabited
abbrev some_inhabited : (ℕ → Bool) → Option (ℕ × List NominalType) → Type 0
some_inhabited found None = Unit {0}
some_inhabited found (Some z) = all_inhabited found z.1 ≡ true

module _ (cs : List NominalConstructor) (d : ℕ) where
  -- a data type is found in one round
  one_round : (r s : ℕ) → reached all_inhabited cs r d ≡ false → reached all_inhabited cs (suc r) d ≡ true
      → reached all_inhabited cs s d ≡ false → reached all_inhabited cs (suc s) d ≡ true → r ≡ s
  one_round r s a b e f = elim (order r s) [
    | inl same ↦ same
    | inr (inl l) ↦ let no : true ≡ false = sym (reached_more all_inhabited all_inhabited_grows cs (suc r) s (omega (arith, l)) d b) ∙ e in cc
    | inr (inr l) ↦ let no : true ≡ false = sym (reached_more all_inhabited all_inhabited_grows cs (suc s) r (omega (arith, l)) d f) ∙ a in cc
  ]

  module _ (c : Choice) (h : IsPickedChoice cs d c) where
    -- what is given by rounds is given by the choice, once the data type is found
    by_choice : {A : Type 0} (by : ℕ → A) (next : ℕ → A)
        → ((r : ℕ) → by (suc r) ≡ (if reached all_inhabited cs r d then by r else next r))
        → (r : ℕ) → reached all_inhabited cs r d ≡ true → by r ≡ next c.rounds
    by_choice by next step zero e = cc
    by_choice by next step (suc r) e = step r ∙
        elim (reached all_inhabited cs r d) as (λ b. reached all_inhabited cs r d ≡ b → (if b then by r else next r) ≡ next c.rounds) [
          | true ↦ λ k. by_choice by next step r k
          | false ↦ λ k. ap next (one_round r c.rounds k e h.before h.found)
        ] refl

    pub picked_data : (n : ℕ) (ss : List ℕ) (r : ℕ) → reached all_inhabited cs r d ≡ true
        → pick_data cs n r d ss ≡ pick_application (pick_data cs n c.rounds) n (Some (c.place + 2, h.chosen.args)) ss
    picked_data n ss r e =
        by_choice (λ r. pick_data cs n r d ss) (λ r. pick_application (pick_data cs n r) n (first_passing (reached all_inhabited cs r) 2 cs d) ss) (λ r. refl) r e
        ∙ ap (λ o. pick_application (pick_data cs n c.rounds) n o ss) h.first

    pub data_cost : (r : ℕ) → reached all_inhabited cs r d ≡ true
        → cost_data cs r d ≡ cost_application (cost_data cs c.rounds) (Some (c.place + 2, h.chosen.args))
    data_cost r e =
        by_choice (λ r. cost_data cs r d) (λ r. cost_application (cost_data cs r) (first_passing (reached all_inhabited cs r) 2 cs d)) (λ r. refl) r e
        ∙ ap (cost_application (cost_data cs c.rounds)) h.first

    -- its arguments are inhabited
    pub arguments_inhabited : all_inhabited (reached all_inhabited cs c.rounds) h.chosen.args ≡ true
    arguments_inhabited = first_inhabited 2 cs (c.place + 2, h.chosen.args) h.first
      where
        first_inhabited : (f : ℕ) (ds : List NominalConstructor) (x : ℕ × List NominalType) → first_passing (reached all_inhabited cs c.rounds) f ds d ≡ Some x
            → all_inhabited (reached all_inhabited cs c.rounds) x.1 ≡ true
        first_inhabited f [] x e = cc
        first_inhabited f (b ∷ ds) x e =
            elim ((b.result == d) && all_inhabited (reached all_inhabited cs c.rounds) b.args) as (λ y. ((b.result == d) && all_inhabited (reached all_inhabited cs c.rounds) b.args) ≡ y
            → (if y then Some (f, b.args) else first_passing (reached all_inhabited cs c.rounds) (suc f) ds d) ≡ Some x → all_inhabited (reached all_inhabited cs c.rounds) x.1 ≡ true) [
              | true ↦ λ k g. subst (some_inhabited (reached all_inhabited cs c.rounds)) g (and_right (b.result == d) (all_inhabited (reached all_inhabited cs c.rounds) b.args) k)
              | false ↦ λ k g. first_inhabited (suc f) ds x g
            ] refl e

-- a place at which something stands is below the length
pub place_below : {A : Type 0} (xs : List A) (i : ℕ) (x : A) → slice_get xs i ≡ Some x → i < length xs
place_below [] zero x e = cc
place_below [] (suc i) x e = cc
place_below (y ∷ xs) zero x e = omega arith
place_below (y ∷ xs) (suc i) x e = let k = place_below xs i x e in omega (arith, k)
