use Rattle.std.proofs.Common.{List, [], map}
use Rattle.ap_defs.specs.declared.terms.Term.{Term}
use Rattle.ap_defs.specs.Terms.{term_of}
use Rattle.ap_defs.specs.Occurrences.{vars_of_terms}
use Rattle.ap_defs.specs.Unification.{vars_then}
use Rattle.ap_answers.proofs.OccurrenceLemmas.{vars_then_front}
use Rattle.ap_steps.proofs.NameLemmas.{vars_next}
use Rattle.ap_steps.proofs.names.add_vars_of.Goals as goal

pub terms-preserved : goal.terms-preserved
terms-preserved c =
    vars_next (λ (ts : List Term). vars_of_terms (map term_of ts)) (λ (t : Term). vars_then (term_of t) []) c.terms.rest.now c.in-Some.others.now c.in-Some.term.now
    c.terms.vars.keys c.add_vars.new.vars.keys _ (λ y ys. vars_then_front (term_of y) (vars_of_terms (map term_of ys))) c.in-Some.ensures.cases.0 c.in_ok-add_vars.ensures c.terms.invariant
