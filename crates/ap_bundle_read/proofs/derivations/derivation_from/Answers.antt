use Rattle.std.proofs.Common.{arith, map}
use Rattle.std.proofs.lemmas.Grind.{common_steps}
use Rattle.std.proofs.lemmas.List.{map-append, reverse-append}
use Rattle.ap_bundle.specs.Nodes.{derivation_from}
use Rattle.ap_bundle_read.specs.Nodes.{node_of}
use Rattle.ap_bundle_read.proofs.StackLemmas.{derivations_none, derivations_last}
use Rattle.ap_bundle_read.proofs.derivations.derivation_from.Goals as goal

pub loop-node-init : goal.loop-node-init
loop-node-init c = rw c.new-stack.ensures.items (derivations_none (map node_of c.args.nodes.items))

pub loop-node-preserved : goal.loop-node-preserved
loop-node-preserved c = grind (arith, common_steps, derivations_last, map-append, reverse-append)

pub returns-in-None : goal.returns-in-None
unfolding derivation_from
returns-in-None c = grind (arith, common_steps, derivations_last, map-append, reverse-append)
