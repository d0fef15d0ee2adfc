-- With the nodes of what waits those so far are all.
use Rattle.std.proofs.Common.{◌≡◌, ◌++◌}
use Rattle.ap_defs.specs.Derivations.{derivation_of}
use Rattle.ap_steps.specs.Names.{count_left, derivations_of, subderivations, preorder_left}
use Rattle.ap_steps.proofs.names.nodes_of.Given as goal

abbrev pub invariant-nodes : goal.invariant-nodes
invariant-nodes l = derivations_of l.nodes.items ++ preorder_left l.waiting.items ≡ subderivations (derivation_of l.derivation)

abbrev pub decreases-nodes : goal.decreases-nodes
decreases-nodes l = count_left l.waiting.items
