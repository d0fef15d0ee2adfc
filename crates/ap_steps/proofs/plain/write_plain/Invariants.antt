-- What is written so far, and what is left, are all.
use Rattle.std.proofs.Common.{◌≡◌, ◌++◌, drop}
use Rattle.ap_steps.specs.Plain.{plain_steps}
use Rattle.ap_steps.proofs.plain.write_plain.Given as goal

abbrev pub invariant-loop-step : goal.invariant-loop-step
invariant-loop-step l = l.out.items ++ plain_steps (drop l.step-index l.steps) ≡ l.fn.out.items ++ plain_steps l.steps
