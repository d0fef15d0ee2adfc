-- What is left, behind all that stands left of it, is all.
use Rattle.std.proofs.Common.{◌≡◌}
use Rattle.ap_defs.specs.Goals.{goal_over}
use Rattle.ap_defs.specs.RawTerms.{raw_of}
use Rattle.ap_program.specs.CarryingOut.{carried_out, map_goal}
use Rattle.ap_restrict.specs.OwnedGoals.{within_fronts}
use Rattle.ap_restrict.proofs.PlaceLemmas.{goal_size}
use Rattle.ap_restrict.proofs.owned_goals.carry_owned_goal.Given as goal

abbrev pub invariant-loop-left : goal.invariant-loop-left
invariant-loop-left l = within_fronts l.fronts.items (map_goal carried_out (goal_over raw_of l.rest)) ≡ map_goal carried_out (goal_over raw_of l.fn.g)

abbrev pub decreases-loop-left : goal.decreases-loop-left
decreases-loop-left l = goal_size (goal_over raw_of l.rest)
