-- What is left of the goal, beside what was added, is all.
use Rattle.std.proofs.Common.{◌≡◌, ◌≤◌, ◌++◌}
use Rattle.ap_defs.specs.declared.goals.Goal.TheViews.{size-Goal}
use Rattle.ap_defs.specs.Goals.{goal_of}
use Rattle.ap_facts.specs.Facts.{facts_of}
use Rattle.ap_facts.proofs.facts.+add_facts.Given as goal

abbrev pub decreases-add_facts : goal.decreases-add_facts
decreases-add_facts l = size-Goal _ l.g.now

abbrev pub invariant-loop-rest : goal.invariant-loop-rest
invariant-loop-rest l = record {
  all : l.facts.items ++ facts_of (goal_of l.rest) ≡ l.fn.facts.items ++ facts_of (goal_of l.fn.g);
  smaller : size-Goal _ l.rest ≤ size-Goal _ l.fn.g;
}

abbrev pub decreases-loop-rest : goal.decreases-loop-rest
decreases-loop-rest l = size-Goal _ l.rest
