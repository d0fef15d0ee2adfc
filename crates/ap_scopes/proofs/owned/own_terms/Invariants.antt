-- The terms so far have numbers for their words.
use Rattle.std.proofs.Common.{◌≡◌, [], map}
use Rattle.ap_defs.specs.RawTerms.{raw_of}
use Rattle.ap_trees.specs.Trees.{trees_of}
use Rattle.ap_scopes.specs.Resolution.{resolved_terms}
use Rattle.ap_scopes.specs.Views.{IsNumbered, declared_of, found_of}
use Rattle.ap_scopes.proofs.owned.own_terms.Given as goal

abbrev pub invariant-loop-tree : goal.invariant-loop-tree
invariant-loop-tree l = record {
  done : (map raw_of l.terms.items, found_of l.found) ≡ resolved_terms (declared_of l.declared) [] (trees_of l.yielded) (found_of l.fn.found);
  numbered : IsNumbered l.found;
}
