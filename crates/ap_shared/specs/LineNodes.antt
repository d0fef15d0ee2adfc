-- The nodes of derivations by the lines of their terms.
use Rattle.std.specs.Prelude.{ℕ}
use Rattle.ap_bundle.specs.Nodes.{Node, atom, equal, fresh, succeed, both, left, right, exists, new}
use Rattle.ap_shared.specs.declared.nodes.SharedNode.{SharedNode}
use Rattle.ap_shared.specs.declared.nodes.SharedNode.TheVariants as code

-- a node of the code, without where it lies in memory
abbrev pub node_by_lines : SharedNode → Node ℕ
node_by_lines (code.Atom u) = atom u.value.clause u.value.names u.value.terms
node_by_lines code.Eq = equal
node_by_lines code.Fresh = fresh
node_by_lines code.True = succeed
node_by_lines code.And = both
node_by_lines code.Left = left
node_by_lines code.Right = right
node_by_lines (code.Exists i) = exists i
node_by_lines (code.New a) = new a.value
