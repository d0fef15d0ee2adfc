-- What is told of outputs does not depend on their paths.
use Rattle.std.proofs.Common.{◌≡◌, ◌∙◌, ℕ, suc, Bool, List, [], ◌∷◌, map, refl, ap, ap₂}
use Rattle.std.specs.Prelude.{◌||◌, if◌then◌else◌}
use Rattle.ap_defs.specs.Answers.{NominalAnswer, NominalOut, cut, found, stuck}
use Rattle.ap_defs.specs.Goals.{NominalProgram, NominalQuery}
use Rattle.ap_defs.specs.Lines.{count_of, is_cut, is_stuck}
use Rattle.ap_backchain.specs.Ends.{without_path}
use Rattle.ap_report.proofs.WithoutPaths.{count_without, cut_without, found_without, stuck_without}
use Rattle.ap_soundness.specs.FoundStates.{EachAnswer}
use Rattle.ap_examine.specs.Exams.{counter_among, counter_if, exam_of, exam_with, holds, instance_of, is_unsettled, tally_of, verdict_on}
use Rattle.ap_property.specs.Verdicts.{has_answer, verdict_of_outs}
use Rattle.ap_examine.specs.declared.exam.Tally.{Tally}
use Rattle.ap_property.specs.declared.verdict.Verdict.TheVariants as verdict

answer_without : (os : List NominalOut) → has_answer (map without_path os) ≡ has_answer os
answer_without [] = refl
answer_without (o ∷ os) = ap₂ (λ (a b : Bool). a || b) (found_without o) (answer_without os)

pub verdict_without : (os : List NominalOut) → verdict_of_outs (map without_path os) ≡ verdict_of_outs os
verdict_without [] = refl
verdict_without (o ∷ os) = ap (λ (b : Bool). if b then verdict.Held else verdict.Open) (answer_without (o ∷ os))

pub each_without : (P : NominalAnswer → Type 0) (os : List NominalOut) → EachAnswer P os → EachAnswer P (map without_path os)
each_without P [] h = tt
each_without P (found p a ∷ os) h = (h.0, each_without P os h.1)
each_without P (cut p ∷ os) h = each_without P os h
each_without P (stuck p ∷ os) h = each_without P os h

abbrev tally_by : ℕ → ℕ → ℕ → ℕ → Tally
tally_by h u c s = record { held = h; unsettled = u; cut = c; stuck = s }

module _ (p : NominalProgram) (depth : ℕ) (q : NominalQuery) where
  counter_without : (n : ℕ) (os : List NominalOut) → counter_among p depth q n (map without_path os) ≡ counter_among p depth q n os
  counter_without n [] = refl
  counter_without n (found r a ∷ os) = ap (counter_if (verdict_on p depth q a) (record { answer = n; instance = instance_of p depth q a })) (counter_without (suc n) os)
  counter_without n (cut r ∷ os) = counter_without n os
  counter_without n (stuck r ∷ os) = counter_without n os

  held_without : (o : NominalOut) → holds p depth q (without_path o) ≡ holds p depth q o
  held_without (found r a) = refl
  held_without (cut r) = refl
  held_without (stuck r) = refl

  unsettled_without : (o : NominalOut) → is_unsettled p depth q (without_path o) ≡ is_unsettled p depth q o
  unsettled_without (found r a) = refl
  unsettled_without (cut r) = refl
  unsettled_without (stuck r) = refl

  tally_without : (os : List NominalOut) → tally_of p depth q (map without_path os) ≡ tally_of p depth q os
  tally_without os =
      let ps = map without_path os in
      ap (λ n. tally_by n (count_of (is_unsettled p depth q) ps) (count_of is_cut ps) (count_of is_stuck ps)) (count_without (holds p depth q) held_without os)
      ∙ ap (λ n. tally_by (count_of (holds p depth q) os) n (count_of is_cut ps) (count_of is_stuck ps)) (count_without (is_unsettled p depth q) unsettled_without os)
      ∙ ap (λ n. tally_by (count_of (holds p depth q) os) (count_of (is_unsettled p depth q) os) n (count_of is_stuck ps)) (count_without is_cut cut_without os)
      ∙ ap (λ n. tally_by (count_of (holds p depth q) os) (count_of (is_unsettled p depth q) os) (count_of is_cut os) n) (count_without is_stuck stuck_without os)

  pub exam_without : (os : List NominalOut) → exam_of p depth q (map without_path os) ≡ exam_of p depth q os
  exam_without os = ap₂ exam_with (counter_without 1 os) (tally_without os)
