use Rattle.std.proofs.Common.{◌≡◌, sym, subst}
use Rattle.std.specs.Prelude.{IfOk, if◌then◌else◌}
use Rattle.ap_defs.specs.Answers.{answer_of}
use Rattle.ap_defs.specs.Types.{locals_of}
use Rattle.ap_machine.specs.Asking.{answer_alone}
use Rattle.ap_machine.specs.Brought.{vars_of_brought}
use Rattle.ap_machine.specs.Unbound.{answer_by_unbound}
use Rattle.ap_machine.specs.Views.{state_in}
use Rattle.ap_machine.proofs.answers.answer_to.Goals as goal

pub returns-then-asked : goal.returns-then-asked
returns-then-asked c =
    let ls = locals_of c.args.asked.now.locals.now in
    let s = state_in c.args.store.now in
    let xs = vars_of_brought c.args.brought.now in
    subst (λ b. IfOk c.answer_alone.result (λ a. answer_of a ≡ (if b then answer_alone ls else answer_by_unbound ls) s xs)) (sym c.if-asked.true) c.answer_alone.ensures
