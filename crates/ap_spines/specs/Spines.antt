-- Terms and goals as they are read inside layers, of which the first is outermost.
use Rattle.std.specs.Prelude.{List, [], ◌∷◌}
use Rattle.ap_defs.specs.RawTerms as terms
use Rattle.ap_defs.specs.RawTerms.{RawTerm, raw_of}
use Rattle.ap_defs.specs.Goals as goals
use Rattle.ap_defs.specs.Goals.{GoalOver, goal_over}
use Rattle.ap_spines.specs.declared.RawLayer.{RawLayer}
use Rattle.ap_spines.specs.declared.RawLayer.TheVariants as around_term
use Rattle.ap_spines.specs.declared.GoalLayer.{GoalLayer}
use Rattle.ap_spines.specs.declared.GoalLayer.TheVariants as around_goal

abbrev pub raw_in : RawLayer → RawTerm → RawTerm
raw_in (around_term.Left t) u = terms.pair (raw_of t) u
raw_in (around_term.Cell t) u = terms.app 1 (terms.pair (raw_of t) u)
raw_in (around_term.App f) u = terms.app f u
raw_in (around_term.Abs i) u = terms.abs i u
raw_in (around_term.Swapped s) u = terms.swapped s.value.left s.value.right u

abbrev pub raw_within : List RawLayer → RawTerm → RawTerm
raw_within [] t = t
raw_within (l ∷ ls) t = raw_in l (raw_within ls t)

abbrev pub raw_goal_in : GoalLayer → GoalOver RawTerm → GoalOver RawTerm
raw_goal_in (around_goal.Both g) h = goals.both (goal_over raw_of g.value) h
raw_goal_in (around_goal.Either g) h = goals.either (goal_over raw_of g.value) h
raw_goal_in (around_goal.Exists x) h = goals.exists x h
raw_goal_in (around_goal.New a) h = goals.new a h

abbrev pub raw_goal_within : List GoalLayer → GoalOver RawTerm → GoalOver RawTerm
raw_goal_within [] g = g
raw_goal_within (l ∷ ls) g = raw_goal_in l (raw_goal_within ls g)
