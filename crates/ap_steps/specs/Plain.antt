-- Steps as plain text, a line for each.
use Rattle.std.specs.Prelude.{ℕ, min, List, [], ◌∷◌, ◌++◌, codes}
use Rattle.ap_steps.specs.declared.steps.Phrase.{Phrase}
use Rattle.ap_steps.specs.declared.steps.Step.{Step}
use Rattle.ap_steps.specs.Depths.{depth_note, repeated}

-- to a height of 30 steps are indented
abbrev pub indent : ℕ → List ℕ
indent depth = repeated (min depth 30) (codes "  ") ++ depth_note 30 depth

-- the conditions at the side of a rule, behind it
abbrev pub side_texts : List Phrase → List ℕ
side_texts [] = []
side_texts (s ∷ ss) = codes "; " ++ s.text ++ side_texts ss

abbrev pub plain_step : Step → List ℕ
plain_step s = indent s.depth ++ s.judgement.text ++ codes "  [" ++ s.rule ++ side_texts s.sides ++ codes "]\n"

abbrev pub plain_steps : List Step → List ℕ
plain_steps [] = []
plain_steps (s ∷ ss) = plain_step s ++ plain_steps ss
