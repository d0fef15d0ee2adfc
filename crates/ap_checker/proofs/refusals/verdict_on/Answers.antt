use Rattle.std.proofs.Common.{◌≡◌, IfOk, subst}
use Rattle.ap_defs.specs.Goals.{program_of}
use Rattle.ap_checker.specs.Rules.{verdict_said}
use Rattle.ap_verdicts.specs.Verdicts.{verdict_on_proved}
use Rattle.ap_checker.proofs.refusals.verdict_on.Goals as goal

pub returns : goal.returns
returns c = subst (λ z. IfOk c.verdict_on_shared.result (λ v. verdict_said v ≡ verdict_on_proved (program_of c.args.program.now) z)) c.in_ok-found.ensures c.verdict_on_shared.ensures
