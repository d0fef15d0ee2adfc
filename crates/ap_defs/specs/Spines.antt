-- Terms, types and goals inside layers, of which the first is outermost.
use Rattle.std.specs.Prelude.{List, [], ◌∷◌}
use Rattle.ap_defs.specs.declared.spines.TermLayer.{TermLayer}
use Rattle.ap_defs.specs.declared.spines.TermLayer.TheVariants as around_term
use Rattle.ap_defs.specs.declared.spines.TypeLayer.{TypeLayer}
use Rattle.ap_defs.specs.declared.spines.TypeLayer.TheVariants as around_type
use Rattle.ap_defs.specs.declared.spines.GoalLayer.{GoalLayer}
use Rattle.ap_defs.specs.declared.spines.GoalLayer.TheVariants as around_goal
use Rattle.ap_defs.specs.Terms as terms
use Rattle.ap_defs.specs.Terms.{NominalTerm, term_of}
use Rattle.ap_defs.specs.Types as types
use Rattle.ap_defs.specs.Types.{NominalType, type_of}
use Rattle.ap_defs.specs.Goals as goals
use Rattle.ap_defs.specs.Goals.{NominalGoal, goal_of}

abbrev pub term_in : TermLayer → NominalTerm → NominalTerm
term_in (around_term.Left t) u = terms.pair (term_of t) u
term_in (around_term.App f) u = terms.app f u
term_in (around_term.Abs a) u = terms.abs a u

abbrev pub term_within : List TermLayer → NominalTerm → NominalTerm
term_within [] t = t
term_within (l ∷ ls) t = term_in l (term_within ls t)

abbrev pub type_in : TypeLayer → NominalType → NominalType
type_in (around_type.Left t) u = types.pair (type_of t) u
type_in around_type.List u = types.list u
type_in (around_type.Abs s) u = types.abs s u

abbrev pub type_within : List TypeLayer → NominalType → NominalType
type_within [] t = t
type_within (l ∷ ls) t = type_in l (type_within ls t)

abbrev pub goal_in : GoalLayer → NominalGoal → NominalGoal
goal_in (around_goal.Both g) h = goals.both (goal_of g) h
goal_in (around_goal.Either g) h = goals.either (goal_of g) h
goal_in (around_goal.Exists x) h = goals.exists x h
goal_in (around_goal.New a) h = goals.new a h

abbrev pub goal_within : List GoalLayer → NominalGoal → NominalGoal
goal_within [] g = g
goal_within (l ∷ ls) g = goal_in l (goal_within ls g)
