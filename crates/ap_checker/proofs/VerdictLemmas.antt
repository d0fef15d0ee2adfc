-- A step of the loop over derivations: the one at a place is refused, or it is not and the first refused is among those after it.
use Rattle.std.proofs.Common.{◌≡◌, ◌<◌, ◌+◌, ℕ, suc, List, map, Some, length, drop, get_or, sym, ap, ap₂, ◌∙◌, add-one}
use Rattle.std.proofs.Math.Seq.{drop-cons}
use Rattle.ap_defs.specs.declared.outcomes.Proved.{Proved}
use Rattle.ap_defs.specs.declared.outcomes.Verdict.{Verdict}
use Rattle.ap_defs.specs.declared.outcomes.Verdict.TheVariants as verdicts
use Rattle.ap_defs.specs.Goals.{NominalProgram}
use Rattle.ap_bundle.specs.Bundles.{NominalProved, proved_of}
use Rattle.ap_shared.specs.declared.derivations.SharedProved.{SharedProved}
use Rattle.ap_shared.specs.SharedViews.{shared_proved}
use Rattle.ap_checker.specs.Rules.{verdict_said}
use Rattle.ap_verdicts.specs.Verdicts.{first_refused, refused_first, verdict_on_proved}

module _ {A : Type 0} (view : A → NominalProved) (p : NominalProgram) (ds : List A) (i : ℕ) (d : A) (h : i < length ds) (v : Verdict)
    (said : verdict_said v ≡ verdict_on_proved p (view (get_or ds i d))) where
  at_place : first_refused p (i + 1) (map view (drop i ds)) ≡ refused_first (i + 1) (verdict_said v) (first_refused p (suc (i + 1)) (map view (drop (suc i) ds)))
  at_place =
      ap (λ xs. first_refused p (i + 1) (map view xs)) (drop-cons ds i d h)
      ∙ ap (λ w. refused_first (i + 1) w (first_refused p (suc (i + 1)) (map view (drop (suc i) ds)))) (sym said)

  refused_by : (node rule : ℕ) → v ≡ verdicts.No node rule → first_refused p (i + 1) (map view (drop i ds)) ≡ Some (record { number = i + 1; node = node; rule = rule })
  refused_by node rule e = at_place ∙ ap (λ w. refused_first (i + 1) (verdict_said w) (first_refused p (suc (i + 1)) (map view (drop (suc i) ds)))) e

  passed_by : v ≡ verdicts.Yes → first_refused p (i + 1 + 1) (map view (drop (i + 1) ds)) ≡ first_refused p (i + 1) (map view (drop i ds))
  passed_by e =
      ap₂ (λ n k. first_refused p n (map view (drop k ds))) (add-one (i + 1)) (add-one i)
      ∙ sym (at_place ∙ ap (λ w. refused_first (i + 1) (verdict_said w) (first_refused p (suc (i + 1)) (map view (drop (suc i) ds)))) e)

module _ (p : NominalProgram) (ds : List Proved) (i : ℕ) (d : Proved) (h : i < length ds) (v : Verdict)
    (said : verdict_said v ≡ verdict_on_proved p (proved_of (get_or ds i d))) where
  pub refused_here : (node rule : ℕ) → v ≡ verdicts.No node rule → first_refused p (i + 1) (map proved_of (drop i ds)) ≡ Some (record { number = i + 1; node = node; rule = rule })
  refused_here = refused_by proved_of p ds i d h v said

  pub passed_here : v ≡ verdicts.Yes → first_refused p (i + 1 + 1) (map proved_of (drop (i + 1) ds)) ≡ first_refused p (i + 1) (map proved_of (drop i ds))
  passed_here = passed_by proved_of p ds i d h v said

module _ (p : NominalProgram) (ds : List SharedProved) (i : ℕ) (d : SharedProved) (h : i < length ds) (v : Verdict)
    (said : verdict_said v ≡ verdict_on_proved p (shared_proved (get_or ds i d))) where
  pub shared_refused_here : (node rule : ℕ) → v ≡ verdicts.No node rule → first_refused p (i + 1) (map shared_proved (drop i ds)) ≡ Some (record { number = i + 1; node = node; rule = rule })
  shared_refused_here = refused_by shared_proved p ds i d h v said

  pub shared_passed_here : v ≡ verdicts.Yes → first_refused p (i + 1 + 1) (map shared_proved (drop (i + 1) ds)) ≡ first_refused p (i + 1) (map shared_proved (drop i ds))
  shared_passed_here = passed_by shared_proved p ds i d h v said
