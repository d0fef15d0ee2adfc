-- None of those so far is refused.
use Rattle.std.proofs.Common.{◌≡◌, ◌+◌, drop, map}
use Rattle.ap_defs.specs.Goals.{program_of}
use Rattle.ap_shared.specs.SharedViews.{shared_proved}
use Rattle.ap_verdicts.specs.Verdicts.{first_refused}
use Rattle.ap_checker.proofs.refusals.first_shared_refused.Given as goal

abbrev pub invariant-loop-i : goal.invariant-loop-i
invariant-loop-i l =
    first_refused (program_of l.program) (l.i + 1) (map shared_proved (drop l.i l.proved)) ≡ first_refused (program_of l.program) 1 (map shared_proved l.proved)
