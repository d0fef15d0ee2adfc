-- What the outputs of a conclusion tell.
use Rattle.std.specs.Prelude.{Bool, false, ◌||◌, List, [], ◌∷◌, if◌then◌else◌}
use Rattle.ap_defs.specs.Answers.{NominalOut}
use Rattle.ap_defs.specs.Lines.{is_found}
use Rattle.ap_property.specs.declared.verdict.Verdict.{Verdict}
use Rattle.ap_property.specs.declared.verdict.Verdict.TheVariants as verdict

-- an answer is among the outputs
abbrev pub has_answer : List NominalOut → Bool
has_answer [] = false
has_answer (o ∷ os) = is_found o || has_answer os

-- refuted where there is no output at all; else held where there is an answer
abbrev pub verdict_of_outs : List NominalOut → Verdict
verdict_of_outs [] = verdict.Refuted
verdict_of_outs (o ∷ os) = if has_answer (o ∷ os) then verdict.Held else verdict.Open
