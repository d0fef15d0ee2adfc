-- What is made, behind all that stands left of it, is all.
use Rattle.std.proofs.Common.{◌≡◌, vec_len}
use Rattle.ap_defs.specs.Goals.{goal_of}
use Rattle.ap_restrict.specs.OwnedGoals.{within_fronts}
use Rattle.ap_restrict.proofs.owned_goals.made_behind_all.Given as goal

abbrev pub invariant-loop-front : goal.invariant-loop-front
invariant-loop-front l = within_fronts l.fronts.items (goal_of l.made) ≡ within_fronts l.fn.fronts.items (goal_of l.fn.g)

abbrev pub decreases-loop-front : goal.decreases-loop-front
decreases-loop-front l = vec_len l.fronts
