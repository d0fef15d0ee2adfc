-- The pairs so far and the names that are left say what all say.
use Rattle.std.proofs.Common.{map, drop}
use Rattle.ap_types.specs.Assignments.{name_equation}
use Rattle.ap_types.specs.Triangular.{shapes_of_nodes}
use Rattle.ap_types.proofs.LoadLemmas.{LoadsSome}
use Rattle.ap_types.proofs.loading.load_names.Given as goal

abbrev pub invariant-loop-x : goal.invariant-loop-x
invariant-loop-x l =
    LoadsSome (shapes_of_nodes l.fn.loaded.nodes.items) l.fn.loaded.pairs.items (map name_equation l.fn.names) (shapes_of_nodes l.all.nodes.items) l.all.pairs.items (map name_equation (drop l.x-index l.names))
