use Rattle.std.proofs.Common.{◌≡◌, ◌≤◌, ◌+◌, List, [], ◌∷◌, ◌++◌, length, ap, ◌∙◌, sym, subst, length-append, arith}
use Rattle.ap_machine.specs.GoalStacks.{AreLinked, waiting_at}
use Rattle.ap_machine.specs.declared.frames.Cell.{Cell}
use Rattle.ap_machine.proofs.GoalStackLemmas.{linked_last, waiting_front}
use Rattle.ap_machine.proofs.goal_stack.GoalStack.push.Goals as goal

pub invariant_of-self-2 : goal.invariant_of-self-2
invariant_of-self-2 c =
    let cs = c.args.self.now.cells.items in
    let d : Cell = record { goal = c.args.frame.goal; base = c.args.frame.base; depth = c.args.frame.depth; next = c.args.self.now.first } in
    let e = c.in_ok-push.ensures.items in
    let n = c.len-self.ensures in
    let l : c.args.self.now.first ≤ 0 + length cs = let w = c.args.self.now.within in omega (arith, w) in
    record {
      linked = subst (λ (es : List Cell). AreLinked 0 es) (sym e) (linked_last 0 cs d c.args.self.now.linked l);
      within = omega (arith, n);
    }

pub returns-clause-waiting : goal.returns-clause-waiting
returns-clause-waiting c =
    let cs = c.args.self.now.cells.items in
    let d : Cell = record { goal = c.args.frame.goal; base = c.args.frame.base; depth = c.args.frame.depth; next = c.args.self.now.first } in
    let e : c.push.new.self.items ≡ cs ++ d ∷ [] = c.in_ok-push.ensures.items in
    let many : length c.push.new.self.items ≡ length cs + 1 = ap length e ∙ length-append cs (d ∷ []) in
    let n = c.len-self.ensures in
    ap (λ es. waiting_at es c.len-self.result) e ∙ waiting_front cs [] d c.len-self.result (omega (arith, n, many)) c.args.self.now.within
