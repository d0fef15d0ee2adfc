-- What is written, what is left of the goal, and what is kept, are the whole text.
use Rattle.std.proofs.Common.{◌≡◌, ◌≤◌, ◌++◌}
use Rattle.ap_trees.specs.Trees.{goal_of_tree}
use Rattle.ap_unparse.specs.Written.{bytes_of}
use Rattle.ap_unparse.specs.WrittenGoals.{written_goal_at}
use Rattle.ap_unparse.proofs.GoalBytes.{all_goal, goal_size}
use Rattle.ap_unparse.proofs.goals.+write_goal.Given as goal

abbrev pub decreases-write_goal : goal.decreases-write_goal
decreases-write_goal l = goal_size (goal_of_tree l.g.now)

abbrev pub invariant-loop-rest : goal.invariant-loop-rest
invariant-loop-rest l = record {
  written : all_goal l.out.items l.side (goal_of_tree l.rest) l.closers.items ≡ l.fn.out.items ++ bytes_of (written_goal_at l.fn.side (goal_of_tree l.fn.g));
  smaller : goal_size (goal_of_tree l.rest) ≤ goal_size (goal_of_tree l.fn.g);
}

abbrev pub decreases-loop-rest : goal.decreases-loop-rest
decreases-loop-rest l = goal_size (goal_of_tree l.rest)
