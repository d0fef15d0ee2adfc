-- The least of what was found and of what is left is that of all.
use Rattle.std.proofs.Common.{◌≡◌, ◌≤◌}
use Rattle.ap_trees.specs.Trees.{term_of, terms_of}
use Rattle.ap_scopes.specs.Flaws.{least_kind, term_flaw, arguments_flaw}
use Rattle.ap_scopes.specs.Views.{declared_of}
use Rattle.ap_scopes.proofs.TreeSizes.{term_size, terms_size}
use Rattle.ap_scopes.proofs.flaws.+term_flaws.Given as goal

abbrev pub decreases-term_flaw : goal.decreases-term_flaw
decreases-term_flaw l = term_size (term_of l.tree.now)

abbrev pub decreases-arguments_flaw : goal.decreases-arguments_flaw
decreases-arguments_flaw l = terms_size (terms_of l.args.now)

abbrev pub invariant-term_flaw-loop-rest : goal.invariant-term_flaw-loop-rest
invariant-term_flaw-loop-rest l = record {
  all : least_kind l.flaw (term_flaw (declared_of l.declared) (term_of l.rest)) ≡ term_flaw (declared_of l.fn.declared) (term_of l.fn.tree);
  smaller : term_size (term_of l.rest) ≤ term_size (term_of l.fn.tree);
}

abbrev pub decreases-term_flaw-loop-rest : goal.decreases-term_flaw-loop-rest
decreases-term_flaw-loop-rest l = term_size (term_of l.rest)

abbrev pub invariant-arguments_flaw-loop-rest : goal.invariant-arguments_flaw-loop-rest
invariant-arguments_flaw-loop-rest l = record {
  all : least_kind l.flaw (arguments_flaw (declared_of l.declared) (terms_of l.rest)) ≡ arguments_flaw (declared_of l.fn.declared) (terms_of l.fn.args);
  smaller : terms_size (terms_of l.rest) ≤ terms_size (terms_of l.fn.args);
}

abbrev pub decreases-arguments_flaw-loop-rest : goal.decreases-arguments_flaw-loop-rest
decreases-arguments_flaw-loop-rest l = terms_size (terms_of l.rest)
