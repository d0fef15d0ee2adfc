-- What is left, within the layers, is all.
use Rattle.std.proofs.Common.{◌≡◌, ◌≤◌}
use Rattle.ap_defs.specs.Goals.{goal_over}
use Rattle.ap_defs.specs.RawTerms.{raw_of}
use Rattle.ap_defs.specs.Spines.{goal_within}
use Rattle.ap_program.specs.CarryingOut.{carried_out, map_goal}
use Rattle.ap_restrict.proofs.PlaceLemmas.{goal_size}
use Rattle.ap_restrict.proofs.carrying.+goal_carried.Given as goal

abbrev pub decreases-goal_carried : goal.decreases-goal_carried
decreases-goal_carried l = goal_size (goal_over raw_of l.g.now)

abbrev pub invariant-loop-rest : goal.invariant-loop-rest
invariant-loop-rest l = record {
  all : goal_within l.layers.items (map_goal carried_out (goal_over raw_of l.rest)) ≡ map_goal carried_out (goal_over raw_of l.fn.g);
  smaller : goal_size (goal_over raw_of l.rest) ≤ goal_size (goal_over raw_of l.fn.g);
}

abbrev pub decreases-loop-rest : goal.decreases-loop-rest
decreases-loop-rest l = goal_size (goal_over raw_of l.rest)
