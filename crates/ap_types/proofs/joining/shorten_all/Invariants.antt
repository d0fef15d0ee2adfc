-- The table says the same.
use Rattle.ap_types.specs.Triangular.{shapes_of_nodes}
use Rattle.ap_types.specs.Joining.{Rewrites}
use Rattle.ap_types.proofs.joining.shorten_all.Given as goal

abbrev pub invariant-loop-x : goal.invariant-loop-x
invariant-loop-x l = Rewrites (shapes_of_nodes l.fn.nodes) (shapes_of_nodes l.nodes)
