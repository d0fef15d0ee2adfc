-- What is left, within the layers, is all.
use Rattle.std.proofs.Common.{◌≡◌}
use Rattle.ap_defs.specs.Goals.{goal_of}
use Rattle.ap_defs.specs.Spines.{goal_within}
use Rattle.ap_instance.proofs.GoalLemmas.{goal_size}
use Rattle.ap_property.specs.Properties.{before_conclusion}
use Rattle.ap_instance.proofs.parts.before_conclusion.Given as goal

abbrev pub invariant-walking : goal.invariant-walking
invariant-walking l = goal_within l.layers.items (before_conclusion (goal_of l.last) (goal_of l.rest)) ≡ before_conclusion (goal_of l.fn.first) (goal_of l.fn.others)

abbrev pub decreases-walking : goal.decreases-walking
decreases-walking l = goal_size (goal_of l.rest)
