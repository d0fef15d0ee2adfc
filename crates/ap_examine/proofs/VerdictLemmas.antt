-- A verdict needs the outputs up to the first answer alone.
use Rattle.std.proofs.Common.{◌≡◌, List, [], ◌∷◌, refl, ap}
use Rattle.std.specs.Prelude.{if◌then◌else◌}
use Rattle.ap_defs.specs.Answers.{NominalOut, cut, found, stuck}
use Rattle.ap_paths.specs.Limits.{first_part}
use Rattle.ap_property.specs.Verdicts.{has_answer, verdict_of_outs}
use Rattle.ap_property.specs.declared.verdict.Verdict.TheVariants as verdict

first_answer : (os : List NominalOut) → has_answer (first_part 1 os) ≡ has_answer os
first_answer [] = refl
first_answer (found r a ∷ os) = refl
first_answer (cut r ∷ os) = first_answer os
first_answer (stuck r ∷ os) = first_answer os

pub first_verdict : (os : List NominalOut) → verdict_of_outs (first_part 1 os) ≡ verdict_of_outs os
first_verdict [] = refl
first_verdict (found r a ∷ os) = refl
first_verdict (cut r ∷ os) = ap (λ b. if b then verdict.Held else verdict.Open) (first_answer os)
first_verdict (stuck r ∷ os) = ap (λ b. if b then verdict.Held else verdict.Open) (first_answer os)
