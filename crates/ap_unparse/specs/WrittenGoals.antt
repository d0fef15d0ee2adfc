-- How goals are written: with spaces round `=`, `#` and `;`, behind `,`, and inside `new` and `exists`.
use Rattle.std.specs.Prelude.{ℕ, List, [], ◌∷◌, ◌++◌, codes}
use Rattle.ap_trees.specs.Terms.{Term}
use Rattle.ap_trees.specs.Goals.{Goal, Atom, Equation, Freshness, Both, Either, Some_variable, New_name}
use Rattle.ap_unparse.specs.declared.side.Side.{Side}
use Rattle.ap_unparse.specs.declared.side.Side.TheVariants.{Alone, OnLeft, BehindComma}
use Rattle.ap_unparse.specs.Written.{Written, space, ident, var, comma, semicolon, round_open, round_close, fresh_word, equal, new, exists}
use Rattle.ap_unparse.specs.WrittenTerms.{written_term}

-- terms, each behind a comma
abbrev pub further_terms : List Term → List Written
further_terms [] = []
further_terms (t ∷ ts) = comma ∷ (written_term t ++ further_terms ts)

abbrev pub arguments_of : List Term → List Written
arguments_of [] = []
arguments_of (t ∷ ts) = round_open ∷ (written_term t ++ (further_terms ts ++ round_close ∷ []))

-- a goal joined by `,` in parentheses on the left, and one joined by `;` behind `,` too
abbrev pub both_at : Side → List Written → List Written
both_at OnLeft ws = round_open ∷ (ws ++ round_close ∷ [])
both_at side ws = ws

abbrev pub either_at : Side → List Written → List Written
either_at Alone ws = ws
either_at side ws = round_open ∷ (ws ++ round_close ∷ [])

abbrev pub written_goal_at : Side → Goal → List Written
written_goal_at side (Atom w ts) = ident w ∷ arguments_of ts
written_goal_at side (Equation t u) = written_term t ++ space ∷ equal ∷ space ∷ written_term u
written_goal_at side (Freshness t u) = written_term t ++ space ∷ fresh_word ∷ space ∷ written_term u
written_goal_at side (Both g h) = both_at side (written_goal_at OnLeft g ++ comma ∷ space ∷ written_goal_at BehindComma h)
written_goal_at side (Either g h) = either_at side (written_goal_at OnLeft g ++ space ∷ semicolon ∷ space ∷ written_goal_at Alone h)
written_goal_at side (Some_variable w g) = exists ∷ space ∷ var w ∷ space ∷ round_open ∷ (written_goal_at Alone g ++ round_close ∷ [])
written_goal_at side (New_name w g) = new ∷ space ∷ ident w ∷ space ∷ round_open ∷ (written_goal_at Alone g ++ round_close ∷ [])

abbrev pub written_goal : Goal → List Written
written_goal g = written_goal_at Alone g

-- what stands before a goal joined by `,` or `;`, and behind it
abbrev pub both_opening : Side → List ℕ
both_opening OnLeft = codes "("
both_opening side = []

abbrev pub both_closing : Side → List ℕ
both_closing OnLeft = codes ")"
both_closing side = []

abbrev pub either_opening : Side → List ℕ
either_opening Alone = []
either_opening side = codes "("

abbrev pub either_closing : Side → List ℕ
either_closing Alone = []
either_closing side = codes ")"
