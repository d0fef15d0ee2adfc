-- What is written so far, and what is left, are all.
use Rattle.std.proofs.Common.{◌≡◌, ◌++◌, drop}
use Rattle.ap_steps.specs.Latex.{latex_items}
use Rattle.ap_steps.proofs.latex.write_list.Given as goal

abbrev pub invariant-loop-step : goal.invariant-loop-step
invariant-loop-step l = l.out.items ++ latex_items (drop l.step-index l.steps) ≡ l.fn.out.items ++ latex_items l.steps
