use Rattle.std.proofs.Common.{◌≡◌, drop}
use Rattle.ap_trees.specs.Trees.{trees_of}
use Rattle.ap_scopes.specs.Flaws.{least_kind, terms_flaw}
use Rattle.ap_scopes.specs.Views.{declared_of}
use Rattle.ap_scopes.proofs.flaws.terms_flaw.Given as goal

abbrev pub invariant-loop-tree : goal.invariant-loop-tree
invariant-loop-tree l = least_kind l.flaw (terms_flaw (declared_of l.declared) (trees_of (drop l.tree-index l.trees))) ≡ terms_flaw (declared_of l.declared) (trees_of l.trees)
