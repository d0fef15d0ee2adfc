-- What is left, within the layers, is all.
use Rattle.std.proofs.Common.{◌≡◌, ◌≤◌, ◌+◌, ◌*◌}
use Rattle.ap_spines.specs.Spines.{raw_within}
use Rattle.ap_trees.specs.Trees.{term_of, terms_of}
use Rattle.ap_scopes.specs.Resolution.{made, resolved_term, resolved_arguments}
use Rattle.ap_scopes.specs.Views.{IsNumbered, declared_of, scope_of, found_of}
use Rattle.ap_scopes.proofs.TreeSizes.{term_size, terms_size}
use Rattle.ap_scopes.proofs.terms.+terms.Given as goal

abbrev pub decreases-resolved_term : goal.decreases-resolved_term
decreases-resolved_term l = 3 * term_size (term_of l.tree.now) + 2

abbrev pub decreases-resolved_application : goal.decreases-resolved_application
decreases-resolved_application l = 3 * terms_size (terms_of l.args.now) + 2

abbrev pub decreases-resolved_abstraction : goal.decreases-resolved_abstraction
decreases-resolved_abstraction l = 3 * term_size (term_of l.body.now) + 3

abbrev pub decreases-resolved_pair : goal.decreases-resolved_pair
decreases-resolved_pair l = 3 * (term_size (term_of l.left.now) + term_size (term_of l.right.now)) + 3

abbrev pub decreases-resolved_cell : goal.decreases-resolved_cell
decreases-resolved_cell l = 3 * (term_size (term_of l.head.now) + term_size (term_of l.tail.now)) + 4

abbrev pub decreases-resolved_spine : goal.decreases-resolved_spine
decreases-resolved_spine l = 3 * term_size (term_of l.tree.now) + 1

abbrev pub decreases-resolved_arguments : goal.decreases-resolved_arguments
decreases-resolved_arguments l = 3 * terms_size (terms_of l.args.now) + 1

abbrev pub decreases-resolved_two : goal.decreases-resolved_two
decreases-resolved_two l = 3 * (term_size (term_of l.first.now) + term_size (term_of l.second.now)) + 3

abbrev pub decreases-resolved_tuple : goal.decreases-resolved_tuple
decreases-resolved_tuple l = 3 * terms_size (terms_of l.args.now)

abbrev pub decreases-innermost_term : goal.decreases-innermost_term
decreases-innermost_term l = 3 * term_size (term_of l.tree.now)

abbrev pub invariant-innermost_term-loop-rest : goal.invariant-innermost_term-loop-rest
invariant-innermost_term-loop-rest l = record {
  all : made (raw_within l.layers.items) (resolved_term (declared_of l.declared) (scope_of l.scope) (term_of l.rest) (found_of l.found)) ≡ made (raw_within l.fn.layers.items) (resolved_term (declared_of l.fn.declared) (scope_of l.fn.scope) (term_of l.fn.tree) (found_of l.fn.found));
  numbered : IsNumbered l.found;
  smaller : term_size (term_of l.rest) ≤ term_size (term_of l.fn.tree);
}

abbrev pub decreases-innermost_term-loop-rest : goal.decreases-innermost_term-loop-rest
decreases-innermost_term-loop-rest l = term_size (term_of l.rest)

abbrev pub invariant-resolved_tuple-loop-rest : goal.invariant-resolved_tuple-loop-rest
invariant-resolved_tuple-loop-rest l = record {
  all : made (raw_within l.layers.items) (resolved_arguments (declared_of l.declared) (scope_of l.scope) (terms_of l.rest) (found_of l.found)) ≡ resolved_arguments (declared_of l.fn.declared) (scope_of l.fn.scope) (terms_of l.fn.args) (found_of l.fn.found);
  numbered : IsNumbered l.found;
  smaller : terms_size (terms_of l.rest) ≤ terms_size (terms_of l.fn.args);
}

abbrev pub decreases-resolved_tuple-loop-rest : goal.decreases-resolved_tuple-loop-rest
decreases-resolved_tuple-loop-rest l = terms_size (terms_of l.rest)
