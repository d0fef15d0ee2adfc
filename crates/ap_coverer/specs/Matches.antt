-- Tables of what variables stand for.
use Rattle.std.specs.Prelude.{◌≡◌, List}
use Rattle.ap_defs.specs.declared.terms.Swap.{Swap}
use Rattle.ap_defs.specs.declared.terms.Var.{Var}
use Rattle.ap_defs.specs.Groundings.{Grounding, grounded}
use Rattle.ap_defs.specs.Permutations.{inverse}
use Rattle.ap_defs.specs.Renaming.{replace_names}
use Rattle.ap_defs.specs.Terms as terms
use Rattle.ap_defs.specs.Terms.{GroundTerm, NominalTerm, act_ground}
use Rattle.ap_defs.specs.Typing.{embedded}
use Rattle.ap_cover.specs.Matched.{Pairs, given_by, matched}
use Rattle.ap_instance.specs.Tables.{term_beside}
use Rattle.ap_instance.specs.declared.picks.Picks.{Picks}

-- a term without variables, as a ground term
abbrev pub ground_term : NominalTerm → GroundTerm
ground_term t = grounded (λ x. terms.unit) t

-- the term beside a variable in a table, and another grounding's term where nothing is
abbrev pub gives : Picks → Grounding → Var → NominalTerm
gives p other y = term_beside p.vars.keys p.terms.items (λ z. embedded (other z)) y

-- the second table has what the first has, and these pairs where the first has nothing
abbrev pub AddsPairs : Pairs → Picks → Picks → Type 0
AddsPairs ps p q = (other : Grounding) (y : Var) → gives q other y ≡ gives p (given_by ps other) y

-- what a term, whose names are replaced, matches of a ground term on which swappings act, the last of them outermost
abbrev pub matched_under : List Swap → NominalTerm → List Swap → NominalTerm → Pairs
matched_under swaps t moved u = matched (replace_names swaps t) (act_ground (inverse moved) (ground_term u))

-- the table has these pairs, and nothing else
abbrev pub IsTableOfPairs : Pairs → Picks → Type 0
IsTableOfPairs ps p = (other : Grounding) (y : Var) → gives p other y ≡ embedded (given_by ps other y)
