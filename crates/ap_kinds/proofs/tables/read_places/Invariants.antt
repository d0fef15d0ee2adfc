-- The places so far in order were read.
use Rattle.ap_types.specs.Triangular.{shapes_of_nodes}
use Rattle.ap_kinds.proofs.PlaceLemmas.{AreReadSoFar}
use Rattle.ap_kinds.proofs.tables.read_places.Given as goal

abbrev pub invariant-loop-i : goal.invariant-loop-i
invariant-loop-i l = AreReadSoFar l.by (shapes_of_nodes l.nodes) l.order l.i l.reads.items
