use Rattle.std.proofs.Common.{List, ◌++◌, map, ap, ◌∙◌}
use Rattle.std.proofs.lemmas.Result.{on_ok_weaker}
use Rattle.ap_answers.specs.Locals.{lent_texts}
use Rattle.ap_defs.specs.declared.goals.Local.{Local}
use Rattle.ap_defs.specs.Derivations.{derivation_of}
use Rattle.ap_defs.specs.Goals.{goal_of}
use Rattle.ap_defs.specs.Lines.{name_texts, var_texts}
use Rattle.ap_defs.specs.Terms.{term_of}
use Rattle.ap_defs.specs.Types.{locals_of}
use Rattle.ap_spelling.specs.Spelt.{givens_of}
use Rattle.ap_steps.specs.Givens.{givens, names_given, vars_given}
use Rattle.ap_steps.specs.Obligations.{givens_left}
use Rattle.ap_steps.proofs.GivenLemmas.{clause_next}
use Rattle.ap_steps.proofs.givens.take_clause.Goals as goal

pub returns-clause-givens : goal.returns-clause-givens
returns-clause-givens c = λ cs.
    let names = c.args.names.now in
    let terms = map term_of c.args.terms.now in
    let d = derivation_of c.args.below.now in
    let body = goal_of c.args.clause.now.body in
    let ls = c.args.clause.now.locals in
    on_ok_weaker c.wait_at.result
    (λ h. clause_next (givens_of c.args.given.now.items) (givens_of c.add_names_given.new.given.items) (givens_of c.add_vars_given.new.given.items)
    (names_given names (name_texts (locals_of ls))) (vars_given terms (var_texts (locals_of ls))) (givens cs (locals_of ls) d body)
    (givens_left cs c.args.waiting.now.items) (givens_left cs c.wait_at.new.waiting.items)
    (c.in_ok-add_names_given.ensures
    ∙ ap (λ ws. givens_of c.args.given.now.items ++ names_given names ws)
    (ap lent_texts c.as_slice.ensures.value ∙ c.in_ok-words.ensures ∙ ap (λ (us : List Local). name_texts (locals_of us)) c.items-locals.ensures))
    (c.in_ok-add_vars_given.ensures
    ∙ ap (λ ws. givens_of c.add_names_given.new.given.items ++ vars_given terms ws)
    (ap lent_texts c.as_slice-2.ensures.value ∙ c.in_ok-words-2.ensures ∙ ap (λ (us : List Local). var_texts (locals_of us)) c.items-locals.ensures))
    (h ∙ ap (λ (us : List Local). givens cs (locals_of us) d body ++ givens_left cs c.args.waiting.now.items) c.items-locals.ensures))
    (c.wait_at.ensures.givens cs)
