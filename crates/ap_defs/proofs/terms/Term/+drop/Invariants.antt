-- What is left weighs no more than what is dropped.
use Rattle.std.proofs.Common.{◌≤◌}
use Rattle.ap_defs.specs.Terms.{term_of}
use Rattle.ap_defs.specs.Weights.{weight}
use Rattle.ap_defs.proofs.terms.Term.+drop.Given as goal

abbrev pub invariant-loop-self : goal.invariant-loop-self
invariant-loop-self l = weight (term_of l.self) ≤ weight (term_of l.fn.self)

abbrev pub decreases-loop-self : goal.decreases-loop-self
decreases-loop-self l = weight (term_of l.self)
