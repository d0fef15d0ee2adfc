use Rattle.std.proofs.Common.{arith}
use Rattle.ap_bundle.specs.Bundles.{bundle_of}
use Rattle.ap_bundle_commands.proofs.TextLemmas.{reading_short}
use Rattle.ap_bundle_commands.proofs.CoveredProofs.{covered_proofs}
use Rattle.ap_bundle_commands.proofs.covering.cover.cover_bytes.Goals as goal

pub report_bundle-requires-clause-few : goal.report_bundle-requires-clause-few
report_bundle-requires-clause-few g c κs within =
    let short = reading_short c.args.bytes.now (bundle_of c.in-Ok.bundle) c.in-Ok.ensures in
    let few = c.requires in
    omega arith

pub returns-in-Ok-clause-made : goal.returns-in-Ok-clause-made
returns-in-Ok-clause-made g c = rw c.in-Ok.ensures c.report_bundle.ensures.made

pub returns-in-Ok-clause-only : goal.returns-in-Ok-clause-only
returns-in-Ok-clause-only g c = rw c.in-Ok.ensures c.report_bundle.ensures.only

pub returns-in-Ok-clause-covers : goal.returns-in-Ok-clause-covers
returns-in-Ok-clause-covers g c = covered_proofs c.args.depth c.args.bytes.now

pub returns-in-Err-Fault-clause-covers : goal.returns-in-Err-Fault-clause-covers
returns-in-Err-Fault-clause-covers g c = covered_proofs c.args.depth c.args.bytes.now

pub returns-in-Err-Memory-clause-covers : goal.returns-in-Err-Memory-clause-covers
returns-in-Err-Memory-clause-covers g c = covered_proofs c.args.depth c.args.bytes.now
