use Rattle.std.proofs.Common.{◌++◌, map, sym, ap, ◌∙◌, arith}
use Rattle.ap_steps.specs.Waits.{steps_left, waiting_nodes}
use Rattle.ap_steps.specs.Writers.{written_step, writing_of}
use Rattle.ap_steps.proofs.WaitLemmas.{last_nodes, last_steps}
use Rattle.ap_steps.proofs.walk.add_steps.Goals as goal

pub steps-smaller : goal.steps-smaller
steps-smaller c =
    let whole = ap waiting_nodes c.in-Some.ensures.items ∙ last_nodes c.pop.new.self.items c.in-Some.next in
    omega (arith, whole, c.in_ok-take_step.ensures.nodes)

pub steps-preserved : goal.steps-preserved
steps-preserved c =
    let w = writing_of c.args.writer.now in
    c.in_ok-take_step.ensures.steps
    ∙ ap (λ xs. map written_step c.steps.steps.items ++ xs) (sym (ap (steps_left w) c.in-Some.ensures.items ∙ last_steps w c.pop.new.self.items c.in-Some.next))
    ∙ c.steps.invariant
