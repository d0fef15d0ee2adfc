use Rattle.std.proofs.Common.{◌++◌, ◌-◌, drop, length, ap, ◌∙◌, arith}
use Rattle.std.proofs.lemmas.List.{length-drop, take_all}
use Rattle.ap_machine.specs.Brought.{vars_of_brought}
use Rattle.ap_machine.specs.Unbound.{unbound_vars}
use Rattle.ap_machine.specs.Views.{state_in}
use Rattle.ap_machine.proofs.LookLemmas.{look_now}
use Rattle.ap_machine.proofs.unbound.unbound_of.Goals as goal

pub returns : goal.returns
returns c =
    let s = state_in c.args.store.now in
    let l = c.args.look.now in
    let bs = c.args.brought.now in
    let others = drop l.looked bs in
    c.in_ok-add_unbound_of.ensures
    ∙ ap (λ ds. c.add_unbound_vars.new.all.items ++ unbound_vars s (vars_of_brought ds)) (take_all (length bs - l.looked) others (omega (arith, length-drop l.looked bs)))
    ∙ ap (λ xs. xs ++ unbound_vars s (vars_of_brought others))
    (c.in_ok-add_unbound_vars.ensures ∙ ap (λ xs. xs ++ unbound_vars s c.deref.result.now) c.new-all.ensures.items ∙ ap (unbound_vars s) c.deref.ensures.value)
    ∙ look_now c.args.store.now bs l c.requires
