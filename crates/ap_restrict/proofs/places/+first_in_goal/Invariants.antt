-- What is left of the goal has the first one.
use Rattle.std.proofs.Common.{◌≡◌, ◌≤◌}
use Rattle.ap_defs.specs.Goals.{goal_over}
use Rattle.ap_defs.specs.RawTerms.{raw_of}
use Rattle.ap_program.specs.NameRestriction.{in_each, terms_of_goal}
use Rattle.ap_restrict.specs.Places.{first_var, variables_at}
use Rattle.ap_restrict.proofs.PlaceLemmas.{goal_size}
use Rattle.ap_restrict.proofs.places.+first_in_goal.Given as goal

abbrev pub decreases-first_in_goal : goal.decreases-first_in_goal
decreases-first_in_goal l = goal_size (goal_over raw_of l.g.now)

abbrev pub invariant-loop-rest : goal.invariant-loop-rest
invariant-loop-rest l = record {
  all : first_var (in_each (variables_at l.place) (terms_of_goal (goal_over raw_of l.rest))) ≡ first_var (in_each (variables_at l.fn.place) (terms_of_goal (goal_over raw_of l.fn.g)));
  smaller : goal_size (goal_over raw_of l.rest) ≤ goal_size (goal_over raw_of l.fn.g);
}

abbrev pub decreases-loop-rest : goal.decreases-loop-rest
decreases-loop-rest l = goal_size (goal_over raw_of l.rest)
