use Rattle.std.proofs.Common.{arith}
use Rattle.ap_shared.specs.SharedViews.{shared_bundle}
use Rattle.ap_bundle_commands.proofs.SoundVerdicts.{sound_verdicts}
use Rattle.ap_bundle_commands.proofs.TextLemmas.{cited_short}
use Rattle.ap_bundle_commands.proofs.checking.check.check_bytes.Goals as goal

pub report_bundle-requires : goal.report_bundle-requires
report_bundle-requires c =
    let short = cited_short c.args.bytes.now (shared_bundle c.in-Ok.bundle) c.in-Ok.ensures in
    let few = c.requires in
    omega arith

pub returns-in-Ok-clause-made : goal.returns-in-Ok-clause-made
returns-in-Ok-clause-made c = rw c.in-Ok.ensures c.report_bundle.ensures.made

pub returns-in-Ok-clause-only : goal.returns-in-Ok-clause-only
returns-in-Ok-clause-only c = rw c.in-Ok.ensures c.report_bundle.ensures.only

pub returns-in-Ok-clause-sound : goal.returns-in-Ok-clause-sound
returns-in-Ok-clause-sound c = sound_verdicts c.args.bytes.now

pub returns-in-Err-Fault-clause-sound : goal.returns-in-Err-Fault-clause-sound
returns-in-Err-Fault-clause-sound c = sound_verdicts c.args.bytes.now

pub returns-in-Err-Memory-clause-sound : goal.returns-in-Err-Memory-clause-sound
returns-in-Err-Memory-clause-sound c = sound_verdicts c.args.bytes.now
