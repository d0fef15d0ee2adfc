use Rattle.std.proofs.Common.{◌≡◌, ◌++◌, drop, map}
use Rattle.ap_defs.specs.RawTerms.{raw_of}
use Rattle.ap_trees.specs.Trees.{trees_of}
use Rattle.ap_scopes.specs.Resolution.{made, resolved_terms}
use Rattle.ap_scopes.specs.Views.{IsNumbered, declared_of, scope_of, found_of}
use Rattle.ap_scopes.proofs.terms.resolved_terms.Given as goal

abbrev pub invariant-loop-tree : goal.invariant-loop-tree
invariant-loop-tree l = record {
  done : made (λ ts. map raw_of l.terms.items ++ ts) (resolved_terms (declared_of l.declared) (scope_of l.scope) (trees_of (drop l.tree-index l.trees)) (found_of l.found)) ≡ resolved_terms (declared_of l.declared) (scope_of l.scope) (trees_of l.trees) (found_of l.initial.found);
  numbered : IsNumbered l.found;
}
