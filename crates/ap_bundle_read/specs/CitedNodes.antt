-- Nodes by the lines of their terms, as nodes over the terms of a table.
use Rattle.std.specs.Prelude.{List}
use Rattle.ap_defs.specs.Terms.{NominalTerm}
use Rattle.ap_bundle.specs.Nodes.{Node}
use Rattle.ap_shared.specs.declared.nodes.SharedNode.{SharedNode}
use Rattle.ap_shared.specs.FirstNodes.{map_node}
use Rattle.ap_shared.specs.LineNodes.{node_by_lines}
use Rattle.ap_shared.specs.Shared.{shared_at}

abbrev pub cited_node : List NominalTerm → SharedNode → Node NominalTerm
cited_node ts n = map_node (shared_at ts) (node_by_lines n)
