use Rattle.std.proofs.Common.{List, ap, ◌∙◌, sym, subst}
use Rattle.ap_store.specs.Views.{present}
use Rattle.ap_search.specs.Continuations.{Waiting}
use Rattle.ap_machine.specs.Below.{AreWaitingBelow}
use Rattle.ap_machine.specs.Brought.{vars_of_brought}
use Rattle.ap_machine.specs.Positions.{Position}
use Rattle.ap_machine.specs.Views.{state_in}
use Rattle.ap_machine.proofs.machine.Machine.pop_goal.Goals as goal

pub invariant_of-self : goal.invariant_of-self
invariant_of-self c =
    let b = c.args.self.now in
    record { seen = b.seen; below = (subst (λ (ws : List Waiting). AreWaitingBelow (present b.store).next ws) c.in-Some.ensures.first b.below).1 }

pub invariant_of-self-in-None : goal.invariant_of-self-in-None
invariant_of-self-in-None c =
    let b = c.args.self.now in
    record { seen = b.seen; below = subst (λ (ws : List Waiting). AreWaitingBelow (present b.store).next ws) (sym c.in-None.ensures.none.1) tt }

pub returns-in-None-clause-none : goal.returns-in-None-clause-none
returns-in-None-clause-none c =
    let b = c.args.self.now in
    let stands : List Waiting → Position = λ ws. record { waiting = ws; path = b.path.items; state = state_in b.store; brought = vars_of_brought b.brought.items } in
    (c.in-None.ensures.none.0, ap stands (c.in-None.ensures.none.1 ∙ sym c.in-None.ensures.none.0))
