use Rattle.std.proofs.Common.{[], map, ap, ap₂, ◌∙◌}
use Rattle.ap_defs.specs.Answers.{typed_var_of}
use Rattle.ap_defs.specs.Terms.{term_of}
use Rattle.ap_search.specs.Records.{closed_vars}
use Rattle.ap_machine.specs.Views.{state_in}
use Rattle.ap_machine.proofs.answers.answer_alone.Goals as goal

pub returns : goal.returns
returns c =
    ap (λ vs. record { binds = map term_of c.of.result; conds = c.of-2.result; vars = map typed_var_of vs }) (c.of-3.ensures ∙ c.new.ensures.items)
    ∙ ap₂ (λ ts cs. record { binds = ts; conds = cs; vars = [] })
    (ap (map term_of) c.of.ensures ∙ c.in_ok-binds.ensures ∙ ap (closed_vars (state_in c.args.store.now)) (c.deref.ensures.value ∙ c.args.asked.now.frees))
    (c.of-2.ensures ∙ c.in_ok-conds.ensures)
