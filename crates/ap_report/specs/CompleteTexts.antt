-- Completeness of what is written for a text, the converse of soundness: what is derivable in nominal logic is an instance of what is shown.
use Rattle.std.specs.Prelude.{◌≡◌, ℕ, List, [], ◌∷◌}
use Rattle.ap_defs.specs.Answers.{query_outs}
use Rattle.ap_defs.specs.Goals.{NominalProgram, NominalQuery}
use Rattle.ap_complete.specs.CompleteAnswers.{HasCompleteAnswers}
use Rattle.ap_paths.specs.Limits.{IsWanting, found_in, part}
use Rattle.ap_paths.specs.declared.limits.Limit.{Limit}
use Rattle.ap_text.specs.Texts.{IsProgramOfText}

-- where fewer answers of a query are shown than are wanted, all its outputs are, and they are complete; where all are wanted, always
abbrev pub IsShownWhole : NominalProgram → ℕ → Limit → NominalQuery → Type 0
IsShownWhole p depth limit q =
    let outs = query_outs p.clauses depth q in IsWanting limit (found_in (part limit outs)) → (part limit outs ≡ outs) × HasCompleteAnswers p depth q

abbrev pub AreShownWhole : NominalProgram → ℕ → Limit → List NominalQuery → Type 0
AreShownWhole p depth limit [] = Unit {0}
AreShownWhole p depth limit (q ∷ qs) = IsShownWhole p depth limit q × AreShownWhole p depth limit qs

-- the program of the text has complete answers, where the text has no fault
abbrev pub IsCompleteText : ℕ → Limit → List ℕ → Type 0
IsCompleteText depth limit text = (p : NominalProgram) → IsProgramOfText text p → AreShownWhole p depth limit p.queries
