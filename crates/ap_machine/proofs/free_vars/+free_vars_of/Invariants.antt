-- The variables of what is left of the goal, behind those so far, are all.
use Rattle.std.proofs.Common.{◌≡◌, ◌≤◌, ◌^◌, ◌++◌}
use Rattle.ap_defs.specs.Goals.{goal_of}
use Rattle.ap_defs.specs.Occurrences.{free_vars}
use Rattle.ap_defs.specs.Renaming.{IsGoalBelow, rename_goal}
use Rattle.ap_defs.specs.declared.goals.Goal.TheViews.{size-Goal}
use Rattle.ap_machine.proofs.free_vars.+free_vars_of.Given as goal

abbrev pub decreases-free_vars_of : goal.decreases-free_vars_of
decreases-free_vars_of l = size-Goal _ l.goal.now

abbrev pub invariant-loop-rest : goal.invariant-loop-rest
invariant-loop-rest l = record {
  all : l.vars.items ++ free_vars (rename_goal l.base (goal_of l.rest)) ≡ free_vars (rename_goal l.fn.base (goal_of l.fn.goal));
  below : IsGoalBelow (2 ^ 64) (rename_goal l.base (goal_of l.rest));
  smaller : size-Goal _ l.rest ≤ size-Goal _ l.fn.goal;
}

abbrev pub decreases-loop-rest : goal.decreases-loop-rest
decreases-loop-rest l = size-Goal _ l.rest
