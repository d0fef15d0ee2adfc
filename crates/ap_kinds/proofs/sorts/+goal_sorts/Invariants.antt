-- What is above a part, and the part with its names sorted, are the whole sorted.
use Rattle.std.proofs.Common.{◌≡◌, ◌≤◌, ◌+◌, ◌*◌, map}
use Rattle.ap_defs.specs.RawTerms.{raw_of}
use Rattle.ap_defs.specs.Goals.{goal_over}
use Rattle.ap_defs.specs.Types.{kind_of}
use Rattle.ap_kinds.specs.Sorts.{goal_with_sorts}
use Rattle.ap_spines.specs.Turned.{goal_turned_back, goal_count}
use Rattle.ap_kinds.proofs.sorts.+goal_sorts.Given as goal

abbrev pub decreases-go_down_goal : goal.decreases-go_down_goal
decreases-go_down_goal l = 2 * goal_count (goal_over raw_of l.goal.now)

abbrev pub decreases-sort_goal : goal.decreases-sort_goal
decreases-sort_goal l = 2 * goal_count (goal_over raw_of l.goal.now) + 1

abbrev pub invariant-sort_goal-down : goal.invariant-sort_goal-down
invariant-sort_goal-down l = record {
  all : goal_turned_back (goal_over raw_of l.above) (goal_with_sorts (map kind_of l.kinds) (goal_over raw_of l.goal)) ≡ goal_with_sorts (map kind_of l.fn.kinds) (goal_over raw_of l.fn.goal);
  smaller : goal_count (goal_over raw_of l.goal) ≤ goal_count (goal_over raw_of l.fn.goal);
}

abbrev pub decreases-sort_goal-down : goal.decreases-sort_goal-down
decreases-sort_goal-down l = goal_count (goal_over raw_of l.goal)

abbrev pub invariant-sort_goal-up : goal.invariant-sort_goal-up
invariant-sort_goal-up l = goal_turned_back (goal_over raw_of l.above) (goal_over raw_of l.goal) ≡ goal_with_sorts (map kind_of l.fn.kinds) (goal_over raw_of l.fn.goal)

abbrev pub decreases-sort_goal-up : goal.decreases-sort_goal-up
decreases-sort_goal-up l = goal_count (goal_over raw_of l.above)
