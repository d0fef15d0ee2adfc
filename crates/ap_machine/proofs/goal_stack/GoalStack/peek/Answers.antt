use Rattle.std.proofs.Common.{◌∷◌, sym, ap, ◌∙◌}
use Rattle.ap_machine.specs.GoalStacks.{waiting_at}
use Rattle.ap_machine.specs.Views.{waiting_of}
use Rattle.ap_machine.proofs.GoalStackLemmas.{waiting_first, waiting_none}
use Rattle.ap_machine.proofs.goal_stack.GoalStack.peek.Goals as goal

pub returns-then-self-eq0-clause-none : goal.returns-then-self-eq0-clause-none
returns-then-self-eq0-clause-none c = waiting_none c.args.self.now.cells.items c.args.self.now.first c.if-self-eq0.true

pub returns-else-self-eq0-clause-first : goal.returns-else-self-eq0-clause-first
returns-else-self-eq0-clause-first c =
    let a = c.args.self.now in (
      waiting_at a.cells.items c.index.result.now.next,
      waiting_first a.cells.items c.index.result.now a.first c.if-self-eq0.false a.within c.index.ensures a.linked
          ∙ ap (λ f. waiting_of f ∷ waiting_at a.cells.items c.index.result.now.next) (sym c.frame_of.ensures),
    )
