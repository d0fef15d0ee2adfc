use Rattle.std.proofs.Common.{List, subst}
use Rattle.ap_types.specs.declared.nodes.Node.{Node}
use Rattle.ap_types.specs.Triangular.{shapes_of_nodes}
use Rattle.ap_kinds.specs.ReadTypes.{AreAllRead}
use Rattle.ap_kinds.proofs.PlaceLemmas.{given}
use Rattle.ap_kinds.proofs.tables.read_holes.Goals as goal

pub returns : goal.returns
returns c =
    let all = subst (λ (ns : List Node). AreAllRead c.args.by (shapes_of_nodes ns) c.in_ok-all.all.items) c.as_slice.ensures.value c.in_ok-all.ensures in
    given c.first_reads.result (λ v k. k c.args.by all) c.first_reads.ensures
