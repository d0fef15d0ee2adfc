-- What is left, below what is above it, is all.
use Rattle.std.proofs.Common.{◌≡◌, []}
use Rattle.ap_defs.specs.RawTerms.{raw_of}
use Rattle.ap_spines.specs.Turned.{turned_back}
use Rattle.ap_trees.specs.Trees.{term_of}
use Rattle.ap_scopes.specs.Resolution.{made, resolved_term}
use Rattle.ap_scopes.specs.Views.{IsNumbered, declared_of, found_of}
use Rattle.ap_scopes.proofs.TreeSizes.{term_size}
use Rattle.ap_scopes.proofs.owned.own_term.Given as goal

abbrev pub invariant-resolving : goal.invariant-resolving
invariant-resolving l = record {
  all : made (turned_back (raw_of l.above)) (resolved_term (declared_of l.declared) [] (term_of l.rest) (found_of l.found)) ≡ resolved_term (declared_of l.fn.declared) [] (term_of l.fn.tree) (found_of l.fn.found);
  numbered : IsNumbered l.found;
}

abbrev pub decreases-resolving : goal.decreases-resolving
decreases-resolving l = term_size (term_of l.rest)
