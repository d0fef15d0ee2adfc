use Rattle.ap_types.specs.Triangular.{shapes_of_nodes}
use Rattle.ap_types.proofs.LinkLemmas.{follows_on, follows_end}
use Rattle.ap_types.proofs.joining.root_of.Goals as goal

pub links-preserved : goal.links-preserved
links-preserved c =
    follows_on (shapes_of_nodes c.args.nodes.now) (shapes_of_nodes c.links.nodes) (shapes_of_nodes c.shorten-next-in-links.new.nodes) c.args.x c.links.at c.links.next c.shorten-next-in-links.result
    c.links.invariant c.shorten-next-in-links.ensures

pub returns : goal.returns
returns c = follows_end (shapes_of_nodes c.args.nodes.now) (shapes_of_nodes c.links.nodes) c.args.x c.links.at c.links.next c.links.invariant c.links-test.false
