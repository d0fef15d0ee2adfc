use Rattle.std.proofs.Common.{◌≡◌, drop}
use Rattle.ap_trees.specs.Trees.{types_of}
use Rattle.ap_scopes.specs.Flaws.{least_kind, types_flaw}
use Rattle.ap_scopes.specs.Views.{declared_of}
use Rattle.ap_scopes.proofs.types.types_flaw.Given as goal

abbrev pub invariant-loop-tree : goal.invariant-loop-tree
invariant-loop-tree l = least_kind l.flaw (types_flaw (declared_of l.declared).signature (types_of (drop l.tree-index l.trees))) ≡ types_flaw (declared_of l.declared).signature (types_of l.trees)
