-- Steps as LaTeX: a tree of rules where a page holds it, and else a list.
use Rattle.std.specs.Prelude.{ℕ, suc, ◌-◌, min, nat_lt, Bool, ◌==◌, ◌&&◌, not, if◌then◌else◌, List, [], ◌∷◌, ◌++◌, length, codes}
use Rattle.std.specs.List.{list_all}
use Rattle.std.specs.Fmt.{decimal}
use Rattle.ap_steps.specs.declared.steps.Phrase.{Phrase}
use Rattle.ap_steps.specs.declared.steps.Step.{Step}
use Rattle.ap_steps.specs.Depths.{depth_note, repeated}
use Rattle.ap_steps.specs.Escapes.{latex_escaped}

-- a page holds at most 60 steps, of a depth of at most 12, as a tree
abbrev pub fits_page : List Step → Bool
fits_page steps = not (nat_lt 60 (length steps)) && list_all (λ s. not (nat_lt 12 s.depth)) steps

-- the conditions at the side of a rule, behind it
abbrev pub latex_side_texts : List Phrase → List ℕ
latex_side_texts [] = []
latex_side_texts (s ∷ ss) = codes "; " ++ latex_escaped s.text ++ latex_side_texts ss

-- the rule of a step and the judgement, each in braces
unfoldable pub saying : Step → List ℕ
saying s = codes "{" ++ latex_escaped s.rule ++ latex_side_texts s.sides ++ codes "}{" ++ latex_escaped s.judgement.text ++ codes "}"

-- the end of so many trees, and what stands between two trees, where one ends
unfoldable pub latex_between : ℕ → List ℕ
latex_between ends = repeated ends (codes "}") ++ (if ends == 0 then [] else codes " \\\\")

-- the rule of a step where so many are open, and how many are open behind it
unfoldable pub node : ℕ → Step → List ℕ
node levels s = latex_between (levels - min levels s.depth) ++ codes "\n\\derive" ++ saying s ++ codes "{"

abbrev pub latex_opened : ℕ → Step → ℕ
latex_opened levels s = suc (min levels s.depth)

-- all that is opened is closed
abbrev pub tree : ℕ → List Step → List ℕ
tree levels [] = repeated levels (codes "}")
tree levels (s ∷ ss) = node levels s ++ tree (latex_opened levels s) ss

-- a step of a list: to a height of 30 it is indented
unfoldable pub item : Step → List ℕ
item s = codes "\\step{" ++ decimal (min s.depth 30) ++ codes "}{" ++ depth_note 30 s.depth ++ codes "}" ++ saying s ++ codes "\n"

abbrev pub latex_items : List Step → List ℕ
latex_items [] = []
latex_items (s ∷ ss) = item s ++ latex_items ss

-- a tree that a page holds
unfoldable pub page : List Step → List ℕ
page steps = codes "\\derivation{" ++ (tree 0 steps ++ codes "}\n")

-- TeX measures no more than some 3000 letters beside one another: a longer tree comes as a list
unfoldable pub short_page : List Step → List ℕ
short_page steps = if nat_lt 2800 (length (page steps)) then latex_items steps else page steps

abbrev pub steps_text : List Step → List ℕ
steps_text steps = if fits_page steps then short_page steps else latex_items steps
