-- The least of what was found and of what is left is that of all.
use Rattle.std.proofs.Common.{◌≡◌, ◌≤◌}
use Rattle.ap_trees.specs.Trees.{type_of_tree}
use Rattle.ap_scopes.specs.Flaws.{least_kind, type_flaw}
use Rattle.ap_scopes.specs.Views.{declared_of}
use Rattle.ap_scopes.proofs.TreeSizes.{type_size}
use Rattle.ap_scopes.proofs.types.+type_flaw.Given as goal

abbrev pub decreases-type_flaw : goal.decreases-type_flaw
decreases-type_flaw l = type_size (type_of_tree l.tree.now)

abbrev pub invariant-loop-rest : goal.invariant-loop-rest
invariant-loop-rest l = record {
  all : least_kind l.flaw (type_flaw (declared_of l.declared).signature (type_of_tree l.rest)) ≡ type_flaw (declared_of l.fn.declared).signature (type_of_tree l.fn.tree);
  smaller : type_size (type_of_tree l.rest) ≤ type_size (type_of_tree l.fn.tree);
}

abbrev pub decreases-loop-rest : goal.decreases-loop-rest
decreases-loop-rest l = type_size (type_of_tree l.rest)
