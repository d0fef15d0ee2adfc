-- Steps as HTML: trees that fold, and bound names in the colour of their binder.
use Rattle.std.specs.Prelude.{ℕ, suc, ◌-◌, min, nat_lt, Bool, false, if◌then◌else◌, ◌==◌, List, [], ◌∷◌, ◌++◌, drop, take, codes}
use Rattle.std.specs.Fmt.{decimal}
use Rattle.ap_steps.specs.declared.steps.Mark.{Mark}
use Rattle.ap_steps.specs.declared.steps.Phrase.{Phrase}
use Rattle.ap_steps.specs.declared.steps.Step.{Step}
use Rattle.ap_steps.specs.Depths.{depth_note, repeated}
use Rattle.ap_steps.specs.Escapes.{html_escaped}

-- a text in the colour of a binder
abbrev pub tag : ℕ → List ℕ
tag colour = codes "<b class=\"c" ++ decimal colour ++ codes "\">"

unfoldable pub tagged : ℕ → List ℕ → List ℕ
tagged colour text = tag colour ++ html_escaped text ++ codes "</b>"

-- a text in the colour of a binder, if it has one
unfoldable pub coloured : ℕ → List ℕ → List ℕ
coloured colour text = if colour == 0 then html_escaped text else tagged colour text

-- a text whose bound names are marked: without its tags it is the text, whatever the marks
abbrev pub marked_text : List ℕ → List Mark → List ℕ
marked_text text [] = html_escaped text
marked_text text (m ∷ ms) = coloured m.colour (take m.length text) ++ marked_text (drop m.length text) ms

abbrev pub phrase_text : Phrase → List ℕ
phrase_text p = marked_text p.text p.marks

-- the conditions at the side of a rule, behind it
abbrev pub html_side_texts : List Phrase → List ℕ
html_side_texts [] = []
html_side_texts (s ∷ ss) = codes "; " ++ phrase_text s ++ html_side_texts ss

-- what a step says
unfoldable pub saying : Step → List ℕ
saying s = depth_note 100 s.depth ++ phrase_text s.judgement ++ codes " <span>[" ++ html_escaped s.rule ++ html_side_texts s.sides ++ codes "]</span>"

-- to a height of 100 steps stand inside one another; whether some do, by those behind
abbrev pub has_inside : ℕ → List Step → Bool
has_inside level [] = false
has_inside level (s ∷ ss) = nat_lt level (min s.depth 100)

-- what stands before a step that others stand inside of
unfoldable pub opening : List ℕ
opening = codes "<details open><summary>"

abbrev pub inner_step : Step → List ℕ
inner_step s = opening ++ saying s ++ codes "</summary>\n"

abbrev pub leaf_step : Step → List ℕ
leaf_step s = codes "<div>" ++ saying s ++ codes "</div>\n"

-- a step, which others stand inside of or not
unfoldable pub shown_step : Bool → Step → List ℕ
shown_step inside s = if inside then inner_step s else leaf_step s

-- the end of so many steps that others stood inside of
unfoldable pub ends : ℕ → List ℕ
ends n = repeated n (codes "</details>\n")

-- the level of a step where so many are open: never more than these
abbrev pub level_in : ℕ → Step → ℕ
level_in levels s = min levels (min s.depth 100)

-- a step where so many are open, and how many are open behind it
abbrev pub step_text : ℕ → Step → List Step → List ℕ
step_text levels s ss = ends (levels - level_in levels s) ++ shown_step (has_inside (level_in levels s) ss) s

abbrev pub html_opened : ℕ → Step → List Step → ℕ
html_opened levels s ss = if has_inside (level_in levels s) ss then suc (level_in levels s) else level_in levels s

-- all that is opened is closed
abbrev pub trees : ℕ → List Step → List ℕ
trees levels [] = ends levels
trees levels (s ∷ ss) = step_text levels s ss ++ trees (html_opened levels s ss) ss
