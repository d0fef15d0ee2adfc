-- What is left of the term, beside what was added, is all.
use Rattle.std.proofs.Common.{◌≡◌, ◌≤◌, ◌++◌, map}
use Rattle.ap_defs.specs.declared.terms.Term.TheViews.{size-Term}
use Rattle.ap_defs.specs.Terms.{term_of}
use Rattle.ap_facts.specs.Facts.{fact_of, left_by}
use Rattle.ap_facts.proofs.facts.+add_left.Given as goal

abbrev pub decreases-add_left : goal.decreases-add_left
decreases-add_left l = size-Term l.t.now

abbrev pub invariant-loop-rest : goal.invariant-loop-rest
invariant-loop-rest l = record {
  all : l.facts.items ++ map (fact_of l.a) (left_by l.a (term_of l.rest)) ≡ l.fn.facts.items ++ map (fact_of l.fn.a) (left_by l.fn.a (term_of l.fn.t));
  smaller : size-Term l.rest ≤ size-Term l.fn.t;
}

abbrev pub decreases-loop-rest : goal.decreases-loop-rest
decreases-loop-rest l = size-Term l.rest
