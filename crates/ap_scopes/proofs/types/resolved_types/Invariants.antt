use Rattle.std.proofs.Common.{◌≡◌, map, take}
use Rattle.ap_defs.specs.Types.{type_of}
use Rattle.ap_trees.specs.Trees.{types_of}
use Rattle.ap_scopes.specs.Types.{resolved_types}
use Rattle.ap_scopes.specs.Views.{declared_of}
use Rattle.ap_scopes.proofs.types.resolved_types.Given as goal

abbrev pub invariant-loop-tree : goal.invariant-loop-tree
invariant-loop-tree l = map type_of l.types.items ≡ resolved_types (declared_of l.declared).signature (types_of (take l.tree-index l.trees))
