-- With the pieces of what is left those so far are all.
use Rattle.std.proofs.Common.{[], ◌∷◌}
use Rattle.ap_defs.specs.Derivations.{derivation_of}
use Rattle.ap_defs.specs.Goals.{goal_of}
use Rattle.ap_judge.specs.Scopes.{environment_of}
use Rattle.ap_steps.specs.Steps.{pieces}
use Rattle.ap_steps.specs.Walks.{IsWritingOnWay, parts_pending, nodes_in_parts}
use Rattle.ap_steps.specs.Writers.{writing_of}
use Rattle.ap_steps.proofs.bodies.pieces_of.Given as goal

abbrev pub invariant-nodes : goal.invariant-nodes
invariant-nodes l =
    IsWritingOnWay (writing_of l.writer) (pieces (writing_of l.writer) (derivation_of l.derivation) (goal_of l.goal) (environment_of (l.fn.given ∷ []))) l.body

abbrev pub decreases-nodes : goal.decreases-nodes
decreases-nodes l = nodes_in_parts (parts_pending l.body)
