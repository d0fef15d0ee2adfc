use Rattle.ap_types.specs.Triangular.{shapes_of_nodes}
use Rattle.ap_kinds.proofs.PlaceLemmas.{all_read}
use Rattle.ap_kinds.proofs.tables.read_places.Goals as goal

pub returns : goal.returns
returns c = all_read c.args.by (shapes_of_nodes c.args.nodes.now) c.args.order.now c.loop-i.i c.loop-i.reads.items c.requires.order c.loop-i.invariant c.loop-i-test.false
