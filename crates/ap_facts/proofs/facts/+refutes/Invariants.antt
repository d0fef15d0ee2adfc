-- What is left of the term decides.
use Rattle.std.proofs.Common.{◌≡◌, ◌≤◌}
use Rattle.ap_defs.specs.declared.terms.Term.TheViews.{size-Term}
use Rattle.ap_defs.specs.Terms.{term_of}
use Rattle.ap_facts.specs.Facts.{is_refuted}
use Rattle.ap_facts.proofs.facts.+refutes.Given as goal

abbrev pub decreases-refutes : goal.decreases-refutes
decreases-refutes l = size-Term l.t.now

abbrev pub invariant-loop-rest : goal.invariant-loop-rest
invariant-loop-rest l = record {
  all : is_refuted l.a (term_of l.rest) ≡ is_refuted l.fn.a (term_of l.fn.t);
  smaller : size-Term l.rest ≤ size-Term l.fn.t;
}

abbrev pub decreases-loop-rest : goal.decreases-loop-rest
decreases-loop-rest l = size-Term l.rest
