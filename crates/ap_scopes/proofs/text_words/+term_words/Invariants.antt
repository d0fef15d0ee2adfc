-- The words of what is left, beside those so far, are those of all.
use Rattle.std.proofs.Common.{◌≡◌, ◌≤◌}
use Rattle.ap_trees.specs.Trees.{term_of, terms_of}
use Rattle.ap_scopes.specs.Words.{with_words, term_words, arguments_words}
use Rattle.ap_scopes.specs.Views.{words_in}
use Rattle.ap_scopes.proofs.TreeSizes.{term_size, terms_size}
use Rattle.ap_scopes.proofs.text_words.+term_words.Given as goal

abbrev pub decreases-add_term : goal.decreases-add_term
decreases-add_term l = term_size (term_of l.tree.now)

abbrev pub decreases-add_arguments : goal.decreases-add_arguments
decreases-add_arguments l = terms_size (terms_of l.args.now)

abbrev pub invariant-add_term-loop-rest : goal.invariant-add_term-loop-rest
invariant-add_term-loop-rest l = record {
  all : with_words (words_in l.words) (term_words (term_of l.rest)) ≡ with_words (words_in l.fn.words) (term_words (term_of l.fn.tree));
  smaller : term_size (term_of l.rest) ≤ term_size (term_of l.fn.tree);
}

abbrev pub decreases-add_term-loop-rest : goal.decreases-add_term-loop-rest
decreases-add_term-loop-rest l = term_size (term_of l.rest)

abbrev pub invariant-add_arguments-loop-rest : goal.invariant-add_arguments-loop-rest
invariant-add_arguments-loop-rest l = record {
  all : with_words (words_in l.words) (arguments_words (terms_of l.rest)) ≡ with_words (words_in l.fn.words) (arguments_words (terms_of l.fn.args));
  smaller : terms_size (terms_of l.rest) ≤ terms_size (terms_of l.fn.args);
}

abbrev pub decreases-add_arguments-loop-rest : goal.decreases-add_arguments-loop-rest
decreases-add_arguments-loop-rest l = terms_size (terms_of l.rest)
