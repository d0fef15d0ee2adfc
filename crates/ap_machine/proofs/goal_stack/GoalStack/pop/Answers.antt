use Rattle.std.proofs.Common.{◌∷◌, sym, ap, ◌∙◌}
use Rattle.ap_machine.specs.GoalStacks.{waiting_at}
use Rattle.ap_machine.specs.Views.{waiting_of}
use Rattle.ap_machine.proofs.GoalStackLemmas.{next_within, waiting_first, waiting_none}
use Rattle.ap_machine.proofs.goal_stack.GoalStack.pop.Goals as goal

pub invariant_of-self : goal.invariant_of-self
invariant_of-self c =
    let a = c.args.self.now in
    record { linked = a.linked; within = next_within a.cells.items c.index-cell.result.now a.first c.if-self-eq0.false a.within c.index-cell.ensures a.linked }

pub returns-then-self-eq0-clause-none : goal.returns-then-self-eq0-clause-none
returns-then-self-eq0-clause-none c =
    let e = waiting_none c.args.self.now.cells.items c.args.self.now.first c.if-self-eq0.true in (e, e)

pub returns-clause-first : goal.returns-clause-first
returns-clause-first c =
    let a = c.args.self.now in
    waiting_first a.cells.items c.index-cell.result.now a.first c.if-self-eq0.false a.within c.index-cell.ensures a.linked
    ∙ ap (λ f. waiting_of f ∷ waiting_at a.cells.items c.index-cell.result.now.next) (sym c.frame_of-frame.ensures)
