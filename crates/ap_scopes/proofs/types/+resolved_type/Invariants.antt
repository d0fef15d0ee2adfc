-- What is left, within the layers, is all.
use Rattle.std.proofs.Common.{◌≡◌, ◌≤◌}
use Rattle.ap_defs.specs.Spines.{type_within}
use Rattle.ap_trees.specs.Trees.{type_of_tree}
use Rattle.ap_scopes.specs.Types.{resolved_type}
use Rattle.ap_scopes.specs.Views.{declared_of}
use Rattle.ap_scopes.proofs.TreeSizes.{type_size}
use Rattle.ap_scopes.proofs.types.+resolved_type.Given as goal

abbrev pub decreases-resolved_type : goal.decreases-resolved_type
decreases-resolved_type l = type_size (type_of_tree l.tree.now)

abbrev pub invariant-loop-rest : goal.invariant-loop-rest
invariant-loop-rest l = record {
  all : type_within l.layers.items (resolved_type (declared_of l.declared).signature (type_of_tree l.rest)) ≡ resolved_type (declared_of l.fn.declared).signature (type_of_tree l.fn.tree);
  smaller : type_size (type_of_tree l.rest) ≤ type_size (type_of_tree l.fn.tree);
}

abbrev pub decreases-loop-rest : goal.decreases-loop-rest
decreases-loop-rest l = type_size (type_of_tree l.rest)
