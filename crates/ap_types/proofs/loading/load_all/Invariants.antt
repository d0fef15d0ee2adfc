-- The pairs so far and the equations that are left say what all say.
use Rattle.std.proofs.Common.{map, drop}
use Rattle.ap_types.specs.Equations.{equation_of}
use Rattle.ap_types.specs.Triangular.{shapes_of_nodes}
use Rattle.ap_types.proofs.LoadLemmas.{LoadsSome}
use Rattle.ap_types.proofs.loading.load_all.Given as goal

abbrev pub invariant-loop-e : goal.invariant-loop-e
invariant-loop-e l =
    LoadsSome (shapes_of_nodes l.fn.loaded.nodes.items) l.fn.loaded.pairs.items (map equation_of l.fn.equations) (shapes_of_nodes l.all.nodes.items) l.all.pairs.items (map equation_of (drop l.e-index l.equations))
