-- What is left has the conclusion.
use Rattle.std.proofs.Common.{◌≡◌}
use Rattle.ap_defs.specs.Goals.{goal_of}
use Rattle.ap_instance.proofs.GoalLemmas.{goal_size}
use Rattle.ap_property.specs.Properties.{conclusion}
use Rattle.ap_instance.proofs.parts.conclusion_of.Given as goal

abbrev pub invariant-walking : goal.invariant-walking
invariant-walking l = conclusion (goal_of l.rest) ≡ conclusion (goal_of l.fn.goal)

abbrev pub decreases-walking : goal.decreases-walking
decreases-walking l = goal_size (goal_of l.rest)
