use Rattle.std.proofs.Common.{map, ap}
use Rattle.std.specs.Option.{option_map}
use Rattle.ap_shared.specs.LineDerivations.{derivation_lines}
use Rattle.ap_shared.specs.LineNodes.{node_by_lines}
use Rattle.ap_shared.proofs.SharingLemmas.{derivation_not_none, derivation_there}
use Rattle.ap_shared.proofs.nodes.whole_derivation.Goals as goal

pub unreachable-requires : goal.unreachable-requires
unreachable-requires c =
    derivation_not_none c.requires.0 (map node_by_lines c.args.nodes.items) c.requires.1 c.requires.2 (rw c.in_default.is at c.in_ok-derivation.ensures)

pub returns : goal.returns
returns c = λ ts d are. derivation_there ts (map node_by_lines c.args.nodes.items) d are c.in-Some.derivation (rw c.in-Some.is at c.in_ok-derivation.ensures)
