-- A step of the loop over proofs: the one at a place is not to be covered, or it is and the first that is not is among those after it.
use Rattle.std.proofs.Common.{◌≡◌, ◌<◌, ◌+◌, ℕ, suc, List, map, Option, None, Some, length, drop, get_or, sym, ap, ap₂, ◌∙◌, add-one}
use Rattle.std.proofs.Math.Seq.{drop-cons}
use Rattle.ap_defs.specs.declared.outcomes.Proved.{Proved}
use Rattle.ap_bundle.specs.Bundles.{proved_of}
use Rattle.ap_covering.specs.Uncovered.{first_uncovered, reason_for, uncovered_first}
use Rattle.ap_covering.specs.declared.uncovered.Reason.{Reason}

module _ (depth : ℕ) (ds : List Proved) (i : ℕ) (d : Proved) (h : i < length ds) (o : Option Reason) (said : o ≡ reason_for depth (proved_of (get_or ds i d))) where
  at_place : first_uncovered depth (i + 1) (map proved_of (drop i ds)) ≡ uncovered_first (i + 1) o (first_uncovered depth (suc (i + 1)) (map proved_of (drop (suc i) ds)))
  at_place =
      ap (λ xs. first_uncovered depth (i + 1) (map proved_of xs)) (drop-cons ds i d h)
      ∙ ap (λ w. uncovered_first (i + 1) w (first_uncovered depth (suc (i + 1)) (map proved_of (drop (suc i) ds)))) (sym said)

  pub uncovered_here : (why : Reason) → o ≡ Some why → first_uncovered depth (i + 1) (map proved_of (drop i ds)) ≡ Some (record { number = i + 1; reason = why })
  uncovered_here why e = at_place ∙ ap (λ w. uncovered_first (i + 1) w (first_uncovered depth (suc (i + 1)) (map proved_of (drop (suc i) ds)))) e

  pub passed_here : o ≡ None → first_uncovered depth (i + 1 + 1) (map proved_of (drop (i + 1) ds)) ≡ first_uncovered depth (i + 1) (map proved_of (drop i ds))
  passed_here e =
      ap₂ (λ n k. first_uncovered depth n (map proved_of (drop k ds))) (add-one (i + 1)) (add-one i)
      ∙ sym (at_place ∙ ap (λ w. uncovered_first (i + 1) w (first_uncovered depth (suc (i + 1)) (map proved_of (drop (suc i) ds)))) e)
