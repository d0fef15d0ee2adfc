use Rattle.std.proofs.Common.{subst, sym}
use Rattle.ap_types.specs.declared.nodes.Node.TheVariants as nodes
use Rattle.ap_types.specs.Triangular.{shapes_of_nodes}
use Rattle.ap_types.specs.Joining.{Shortens}
use Rattle.ap_types.proofs.TableLemmas.{table_set, length_table}
use Rattle.ap_types.proofs.LinkLemmas.{shortens_link}
use Rattle.ap_types.proofs.joining.shorten.Goals as goal
use Rattle.std.proofs.Common.{arith}

pub returns : goal.returns
returns c =
    let ts = shapes_of_nodes c.args.nodes.now in
    let long = length_table c.args.nodes.now in
    subst (λ us. Shortens ts c.args.x us c.link_of-after.result) (sym (table_set c.args.nodes.now c.args.x (nodes.Place c.link_of-after.result)))
    (shortens_link ts c.args.x c.link_of-next.result c.link_of-after.result c.requires.formed (omega (arith, c.requires.within)) c.link_of-next.ensures c.if-next-x.false c.link_of-after.ensures)
