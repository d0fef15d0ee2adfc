use Rattle.std.proofs.Common.{List, [], map}
use Rattle.ap_defs.specs.declared.terms.Term.{Term}
use Rattle.ap_defs.specs.Terms.{term_of}
use Rattle.ap_defs.specs.Occurrences.{names_of_terms, names_then}
use Rattle.ap_answers.proofs.OccurrenceLemmas.{names_then_front}
use Rattle.ap_steps.proofs.NameLemmas.{names_next}
use Rattle.ap_steps.proofs.names.add_names_of.Goals as goal

pub terms-preserved : goal.terms-preserved
terms-preserved c =
    names_next (λ (ts : List Term). names_of_terms (map term_of ts)) (λ (t : Term). names_then (term_of t) []) c.terms.rest.now c.in-Some.others.now c.in-Some.term.now
    c.terms.names.keys c.add_names.new.names.keys _ (λ y ys. names_then_front (term_of y) (names_of_terms (map term_of ys))) c.in-Some.ensures.cases.0 c.in_ok-add_names.ensures c.terms.invariant
