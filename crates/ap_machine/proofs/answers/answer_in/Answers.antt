use Rattle.std.proofs.Common.{map, sym, ap, ◌∙◌}
use Rattle.ap_defs.specs.Answers.{typed_var_of, typed_vars}
use Rattle.ap_defs.specs.Terms.{term_of}
use Rattle.ap_defs.specs.Types.{locals_of}
use Rattle.ap_search.specs.Records.{closed_vars}
use Rattle.ap_store.specs.Views.{kinds}
use Rattle.ap_machine.specs.Brought.{vars_of_brought}
use Rattle.ap_machine.specs.Unbound.{vars_besides}
use Rattle.ap_machine.specs.Views.{state_in}
use Rattle.ap_machine.proofs.AnswerLemmas.{answer_is}
use Rattle.ap_machine.proofs.answers.answer_in.Goals as goal

pub returns : goal.returns
returns c =
    let s = state_in c.args.store.now in
    let others = c.in_ok-others.others.items in
    answer_is (locals_of c.args.asked.now.locals.now) s (vars_of_brought c.args.brought.now) others (map term_of c.of.result) c.of-2.result (map typed_var_of c.of-3.result) c.in_ok-others.ensures
    (ap (map term_of) c.of.ensures ∙ c.in_ok-binds.ensures ∙ ap (closed_vars s) (c.deref.ensures.value ∙ c.args.asked.now.frees))
    (c.of-2.ensures ∙ c.in_ok-conds.ensures)
    (ap (map typed_var_of) c.of-3.ensures ∙ c.in_ok-vars-2.ensures
    ∙ ap (typed_vars (kinds c.args.store.now))
    (c.deref-5.ensures.value ∙ c.in_ok-vars.ensures
    ∙ ap (λ bs. vars_besides (map term_of bs) c.deref-3.result.now c.deref-4.result.now) (c.deref-2.ensures.value ∙ sym c.of.ensures)
    ∙ ap (λ cs. vars_besides (map term_of c.of.result) cs c.deref-4.result.now) (c.deref-3.ensures.value ∙ c.in_ok-conds.ensures)
    ∙ ap (λ os. vars_besides (map term_of c.of.result) s.conditions os) c.deref-4.ensures.value))
