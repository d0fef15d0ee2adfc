-- What stands left of a goal that is carried out, the first outermost; and a goal that is taken apart, put together again.
use Rattle.std.specs.Prelude.{List, [], ◌∷◌}
use Rattle.ap_defs.specs.Goals.{GoalOver, NominalGoal, both, either, equal, goal_of, goal_over}
use Rattle.ap_defs.specs.RawTerms.{RawTerm, raw_of}
use Rattle.ap_restrict.specs.declared.owned_goals.Front.{Front}
use Rattle.ap_restrict.specs.declared.owned_goals.Front.TheVariants as fronts
use Rattle.ap_restrict.specs.declared.owned_goals.TakenGoal.{TakenGoal}
use Rattle.ap_restrict.specs.declared.owned_goals.TakenGoal.TheVariants as apart

abbrev pub in_front : Front → NominalGoal → NominalGoal
in_front (fronts.Both g) h = both (goal_of g.value) h
in_front (fronts.Either g) h = either (goal_of g.value) h

abbrev pub within_fronts : List Front → NominalGoal → NominalGoal
within_fronts [] g = g
within_fronts (f ∷ fs) g = in_front f (within_fronts fs g)

abbrev pub taken_goal_of : TakenGoal → GoalOver RawTerm
taken_goal_of (apart.Both g h) = both (goal_over raw_of g) (goal_over raw_of h)
taken_goal_of (apart.Either g h) = either (goal_over raw_of g) (goal_over raw_of h)
taken_goal_of (apart.Equal t u) = equal (raw_of t) (raw_of u)
taken_goal_of (apart.Whole g) = goal_over raw_of g
