-- The parts so far have their entries, and the others wait for theirs.
use Rattle.std.proofs.Common.{drop}
use Rattle.ap_defs.specs.Types.{shape_of}
use Rattle.ap_types.specs.Triangular.{shapes_of_nodes}
use Rattle.ap_types.specs.Loading.{lent_shapes}
use Rattle.ap_types.proofs.PartLemmas.{Loading, sizes}
use Rattle.ap_types.proofs.loading.load_parts.Given as goal

abbrev pub invariant-parts : goal.invariant-parts
invariant-parts l = Loading (shapes_of_nodes l.fn.nodes.items) (shape_of l.t) (shapes_of_nodes l.nodes.items) (lent_shapes l.waiting.items) l.start l.next

abbrev pub decreases-parts : goal.decreases-parts
decreases-parts l = sizes (drop l.next (lent_shapes l.waiting.items))
