-- Nodes of the code, without where their terms lie in memory.
use Rattle.std.specs.Prelude.{map}
use Rattle.ap_defs.specs.Terms.{NominalTerm, term_of}
use Rattle.ap_bundle.specs.LineForms as lines
use Rattle.ap_bundle.specs.Nodes as nodes
use Rattle.ap_bundle_read.specs.declared.nodes.Bare.{Bare}
use Rattle.ap_bundle_read.specs.declared.nodes.Bare.TheVariants as bare
use Rattle.ap_bundle_read.specs.declared.nodes.Node.{Node}
use Rattle.ap_bundle_read.specs.declared.nodes.Node.TheVariants as node
use Rattle.ap_bundle_read.specs.declared.nodes.NodeLine.{NodeLine}
use Rattle.ap_bundle_read.specs.declared.nodes.NodeLine.TheVariants as line

abbrev pub node_of : Node → nodes.Node NominalTerm
node_of (node.Atom u) = nodes.atom u.value.clause u.value.names (map term_of u.value.terms)
node_of node.Eq = nodes.equal
node_of node.Fresh = nodes.fresh
node_of node.True = nodes.succeed
node_of node.And = nodes.both
node_of node.Left = nodes.left
node_of node.Right = nodes.right
node_of (node.Exists t) = nodes.exists (term_of t.value)
node_of (node.New a) = nodes.new a

-- a node that brings no terms
abbrev pub bare_node : {T : Type 0} → Bare → nodes.Node T
bare_node bare.Eq = nodes.equal
bare_node bare.Fresh = nodes.fresh
bare_node bare.True = nodes.succeed
bare_node bare.And = nodes.both
bare_node bare.Left = nodes.left
bare_node bare.Right = nodes.right
bare_node (bare.New a) = nodes.new a

abbrev pub node_line_of : NodeLine → lines.NodeLine NominalTerm
node_line_of (line.Atom k names terms) = lines.atom k names terms
node_line_of line.Exists = lines.exists
node_line_of (line.Whole n) = lines.whole (bare_node n)
