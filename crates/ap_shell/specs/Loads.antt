-- How loading a text ends, and what is loaded then.
use Rattle.std.specs.Prelude.{◌≡◌, ◌<◌, ℕ, List, length, Ok}
use Rattle.ap_defs.specs.declared.faults.Fault.{Fault}
use Rattle.ap_defs.specs.Goals.{NominalProgram}
use Rattle.ap_defs.specs.Limits.{size_limit}
use Rattle.ap_inputs.specs.Items.{kept_text}
use Rattle.ap_lexer.specs.Tokens.{Lexeme, lexed}
use Rattle.ap_shell.specs.declared.loading.Outcome.{Outcome}
use Rattle.ap_shell.specs.declared.loading.Outcome.TheVariants as outcomes
use Rattle.ap_text.specs.Texts.{IsFaultOfText, IsProgramOfText}

-- a text is loaded where it has a program, and refused for a fault, or where it is too large
abbrev pub IsOutcome : List ℕ → Outcome → Type 0
IsOutcome text outcomes.Loaded = (p : NominalProgram) × IsProgramOfText text p
IsOutcome text outcomes.Faulty = (f : Fault) × IsFaultOfText text f
IsOutcome text outcomes.TooLarge = size_limit < length text

-- what is loaded of a text: blanks stand in place of its queries, and it ends with the end of a line
abbrev pub IsKeptOf : List ℕ → List ℕ → Type 0
IsKeptOf text loaded = (ts : List Lexeme) × (lexed text ≡ Ok ts) × (loaded ≡ kept_text text ts)

-- what is loaded after this outcome: what is kept of the text, or what was loaded before
abbrev pub IsLoadedBy : Outcome → List ℕ → List ℕ → List ℕ → Type 0
IsLoadedBy outcomes.Loaded text old new = IsKeptOf text new
IsLoadedBy _ text old new = new ≡ old
