use Rattle.std.proofs.Common.{◌∙◌, map, sym, ap}
use Rattle.ap_defs.specs.Occurrences.{names_of_terms}
use Rattle.ap_defs.specs.Terms.{term_of}
use Rattle.ap_answers.specs.Occurring.{more_names}
use Rattle.ap_instance.proofs.NameLemmas.{next_term}
use Rattle.ap_instance.proofs.names.add_names_of_terms.Goals as goal

pub adding-preserved : goal.adding-preserved
adding-preserved c =
    next_term c.adding.names.keys c.add_names.new.names.keys (term_of c.in-Some.term.now) (map term_of c.in-Some.others.now) _ c.in_ok-add_names.ensures
    (sym (ap (λ l. more_names c.adding.names.keys (names_of_terms (map term_of l))) c.in-Some.ensures.cases.0) ∙ c.adding.invariant)
