use Rattle.std.proofs.Common.{◌≡◌, not, nat_lt, true, take}
use Rattle.std.specs.List.{list_all}
use Rattle.ap_steps.specs.declared.steps.Step.{Step}
use Rattle.ap_steps.proofs.latex.fits_page.Given as goal

abbrev pub invariant-loop-step : goal.invariant-loop-step
invariant-loop-step l = list_all (λ (s : Step). not (nat_lt 12 s.depth)) (take l.step-index l.steps) ≡ true
