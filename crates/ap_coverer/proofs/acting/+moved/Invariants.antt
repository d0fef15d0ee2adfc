-- What is left of the term stands within the layers.
use Rattle.std.proofs.Common.{◌≡◌, ◌≤◌}
use Rattle.ap_defs.specs.Spines.{term_within}
use Rattle.ap_defs.specs.Terms.{act_term, term_of}
use Rattle.ap_defs.specs.Unification.{size}
use Rattle.ap_coverer.proofs.acting.+moved.Given as goal

abbrev pub decreases-moved : goal.decreases-moved
decreases-moved l = size (term_of l.term.now)

abbrev pub invariant-loop-rest : goal.invariant-loop-rest
invariant-loop-rest l = record {
  all : term_within l.layers.items (act_term l.swaps (term_of l.rest)) ≡ act_term l.swaps (term_of l.fn.term);
  smaller : size (term_of l.rest) ≤ size (term_of l.fn.term);
}

abbrev pub decreases-loop-rest : goal.decreases-loop-rest
decreases-loop-rest l = size (term_of l.rest)
