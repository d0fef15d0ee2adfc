-- What is written, what is left, and what is kept, are the whole text.
use Rattle.std.proofs.Common.{◌≡◌, ◌≤◌, ◌++◌}
use Rattle.ap_trees.specs.Trees.{term_of, terms_of}
use Rattle.ap_unparse.specs.Written.{bytes_of}
use Rattle.ap_unparse.specs.WrittenTerms.{term_at, arguments_of}
use Rattle.ap_unparse.proofs.TermBytes.{all_term, term_size, terms_size}
use Rattle.ap_unparse.proofs.terms.+writing.Given as goal

abbrev pub decreases-write_arguments : goal.decreases-write_arguments
decreases-write_arguments l = terms_size (terms_of l.args.now)

abbrev pub decreases-write_tree : goal.decreases-write_tree
decreases-write_tree l = term_size (term_of l.t.now)

abbrev pub invariant-write_arguments-loop-rest : goal.invariant-write_arguments-loop-rest
invariant-write_arguments-loop-rest l = record {
  written : l.out.items ++ bytes_of (arguments_of (terms_of l.rest)) ≡ l.fn.out.items ++ bytes_of (arguments_of (terms_of l.fn.args));
  smaller : terms_size (terms_of l.rest) ≤ terms_size (terms_of l.fn.args);
}

abbrev pub decreases-write_arguments-loop-rest : goal.decreases-write_arguments-loop-rest
decreases-write_arguments-loop-rest l = terms_size (terms_of l.rest)

abbrev pub invariant-write_tree-loop-rest : goal.invariant-write_tree-loop-rest
invariant-write_tree-loop-rest l = record {
  written : all_term l.out.items l.context (term_of l.rest) l.closers.items ≡ l.fn.out.items ++ bytes_of (term_at l.fn.context (term_of l.fn.t));
  smaller : term_size (term_of l.rest) ≤ term_size (term_of l.fn.t);
}

abbrev pub decreases-write_tree-loop-rest : goal.decreases-write_tree-loop-rest
decreases-write_tree-loop-rest l = term_size (term_of l.rest)
