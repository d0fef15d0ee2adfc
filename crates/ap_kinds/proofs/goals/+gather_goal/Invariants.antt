-- What is left of the goal, from the system so far, gives the whole.
use Rattle.std.proofs.Common.{◌≡◌, ◌≤◌}
use Rattle.ap_defs.specs.Goals.{goal_over}
use Rattle.ap_defs.specs.RawTerms.{raw_of}
use Rattle.ap_defs.specs.Types.{signature_of}
use Rattle.ap_spines.proofs.SpineLemmas.{goal_size}
use Rattle.ap_kinds.specs.Gathering.{gather_goal}
use Rattle.ap_kinds.specs.Systems.{system_of}
use Rattle.ap_kinds.proofs.goals.+gather_goal.Given as goal

abbrev pub decreases-gather_goal : goal.decreases-gather_goal
decreases-gather_goal l = goal_size (goal_over raw_of l.goal.now)

abbrev pub invariant-loop-rest : goal.invariant-loop-rest
invariant-loop-rest l = record {
  all : gather_goal (signature_of l.sig) l.idents (goal_over raw_of l.rest) (system_of l.system) ≡ gather_goal (signature_of l.fn.sig) l.fn.idents (goal_over raw_of l.fn.goal) (system_of l.fn.system);
  smaller : goal_size (goal_over raw_of l.rest) ≤ goal_size (goal_over raw_of l.fn.goal);
}

abbrev pub decreases-loop-rest : goal.decreases-loop-rest
decreases-loop-rest l = goal_size (goal_over raw_of l.rest)
