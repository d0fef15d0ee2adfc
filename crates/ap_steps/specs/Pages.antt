-- Documents of derivations.
use Rattle.std.specs.Prelude.{ℕ, List, [], ◌∷◌, ◌++◌, length, codes}
use Rattle.std.specs.Fmt.{decimal}
use Rattle.ap_steps.specs.declared.pages.Format.{Format}
use Rattle.ap_steps.specs.declared.pages.Format.TheVariants.{Text, Latex, Html}
use Rattle.ap_steps.specs.declared.pages.TheConstants.{LATEX_HEAD, LATEX_FOOT, HTML_HEAD, HTML_FOOT}
use Rattle.ap_steps.specs.declared.steps.Step.{Step}
use Rattle.ap_steps.specs.Html as html
use Rattle.ap_steps.specs.Latex as latex
use Rattle.ap_steps.specs.Plain as plain

-- what stands before the derivations, and behind them
unfoldable pub head_text : Format → List ℕ
head_text Text = []
head_text Latex = LATEX_HEAD.now
head_text Html = HTML_HEAD.now

unfoldable pub foot_text : Format → List ℕ
foot_text Text = []
foot_text Latex = LATEX_FOOT.now
foot_text Html = HTML_FOOT.now

-- how many were checked
abbrev pub checked_text : Format → ℕ → List ℕ
checked_text Text n = codes "% " ++ decimal n ++ codes " derivations checked\n"
checked_text Latex n = codes "\\noindent " ++ decimal n ++ codes " derivations checked\n\n"
checked_text Html n = codes "<p>" ++ decimal n ++ codes " derivations checked</p>\n"

abbrev pub page_beginning : Format → ℕ → List ℕ
page_beginning format n = head_text format ++ checked_text format n

-- the steps of a derivation
abbrev pub derivation_text : Format → List Step → List ℕ
derivation_text Text steps = codes "\n" ++ plain.plain_steps steps
derivation_text Latex steps = latex.steps_text steps
derivation_text Html steps = codes "<section>\n" ++ html.trees 0 steps ++ codes "</section>\n"

abbrev pub derivation_texts : Format → List (List Step) → List ℕ
derivation_texts format [] = []
derivation_texts format (d ∷ ds) = derivation_text format d ++ derivation_texts format ds

-- a document of derivations
abbrev pub document : Format → List (List Step) → List ℕ
document format ds = page_beginning format (length ds) ++ derivation_texts format ds ++ foot_text format
