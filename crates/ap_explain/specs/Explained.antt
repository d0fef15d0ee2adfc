-- What is explained of a text.
use Rattle.std.specs.Prelude.{ℕ, List, Option, None, Some, IfSome}
use Rattle.ap_defs.specs.Goals.{NominalProgram}
use Rattle.ap_text.specs.Texts.{IsFaultOfText, IsProgramOfText}
use Rattle.ap_explain.specs.Marks.{IsMarkOf}
use Rattle.ap_explain.specs.declared.explanation.Explanation.{Explanation}

-- An explanation is of the text's first fault, with its item, line and kind, and marks a place of that item, or of that line
-- where no token begins. There is none exactly where the text has a program.
abbrev pub IsExplained : List ℕ → Option Explanation → Type 0
IsExplained text (Some x) = IsFaultOfText text x.fault × IfSome x.message (λ m. IsMarkOf text x.fault m.span.start)
IsExplained text None = (p : NominalProgram) × IsProgramOfText text p
