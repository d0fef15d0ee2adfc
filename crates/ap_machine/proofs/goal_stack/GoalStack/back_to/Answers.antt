use Rattle.std.proofs.Common.{◌≡◌, List, length, take, ap, ◌∙◌, sym, subst, arith}
use Rattle.std.proofs.lemmas.List.{length-take-le}
use Rattle.ap_machine.specs.GoalStacks.{AreLinked}
use Rattle.ap_machine.specs.declared.frames.Cell.{Cell}
use Rattle.ap_machine.proofs.GoalStackLemmas.{linked_cut}
use Rattle.ap_machine.proofs.goal_stack.GoalStack.back_to.Goals as goal

pub invariant_of-self : goal.invariant_of-self
invariant_of-self c =
    let cs = c.args.self.now.cells.items in
    let e : c.truncate.new.self.items ≡ take c.args.size cs = c.truncate.ensures.items in
    let many : length c.truncate.new.self.items ≡ c.args.size = ap length e ∙ length-take-le c.args.size cs c.requires.size in
    let f = c.requires.first in
    record {
      linked = subst (λ (es : List Cell). AreLinked 0 es) (sym e) (linked_cut 0 cs c.args.size c.args.self.now.linked);
      within = omega (arith, many, f);
    }
