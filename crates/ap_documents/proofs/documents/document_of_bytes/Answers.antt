use Rattle.std.proofs.Common.{subst, arith}
use Rattle.ap_bundle.specs.Bundles.{bundle_of}
use Rattle.ap_bundle_commands.proofs.TextLemmas.{reading_short}
use Rattle.ap_bundle_laws.proofs.CitedLemmas.{read_is_cited}
use Rattle.ap_documents.specs.Documents.{PassesCheck}
use Rattle.ap_documents.proofs.documents.document_of_bytes.Goals as goal

pub document_of_bundle-requires-clause-short : goal.document_of_bundle-requires-clause-short
document_of_bundle-requires-clause-short c =
    let short = reading_short c.args.bytes.now (bundle_of c.in-Ok.bundle) c.in-Ok.ensures in
    let few = c.requires.short in
    omega arith

pub document_of_bundle-requires-clause-passes : goal.document_of_bundle-requires-clause-passes
document_of_bundle-requires-clause-passes c = subst PassesCheck (read_is_cited c.args.bytes.now (bundle_of c.in-Ok.bundle) c.in-Ok.ensures) c.requires.passes

pub returns-in-Ok : goal.returns-in-Ok
returns-in-Ok c = rw c.in-Ok.ensures c.document_of_bundle.ensures
