use Rattle.ap_types.specs.Triangular.{shapes_of_nodes}
use Rattle.ap_types.proofs.LinkLemmas.{rewrites_on}
use Rattle.ap_types.proofs.joining.shorten_all.Goals as goal

pub loop-x-preserved : goal.loop-x-preserved
loop-x-preserved c = rewrites_on (shapes_of_nodes c.args.nodes.now) (shapes_of_nodes c.loop-x.nodes) (shapes_of_nodes c.shorten.new.nodes) c.loop-x.invariant c.shorten.ensures.rewrites
