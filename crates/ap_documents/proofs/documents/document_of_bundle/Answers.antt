use Rattle.std.proofs.Common.{ℕ, List, subst}
use Rattle.ap_bundle.specs.Bundles.{bundle_of}
use Rattle.ap_text.specs.Texts.{IsRefusedText}
use Rattle.ap_documents.proofs.DocumentLemmas.{no_text_fault}
use Rattle.ap_documents.proofs.documents.document_of_bundle.Goals as goal

pub unreachable-requires : goal.unreachable-requires
unreachable-requires c =
    let text = c.args.bundle.now.text in
    let refused = subst (λ (t : List ℕ). IsRefusedText c.in-Err-Fault.field-0 t) c.items.ensures c.in-Err-Fault.ensures.fault in
    no_text_fault (bundle_of c.args.bundle.now) c.in-Err-Fault.field-0-0 (subst (λ e. IsRefusedText e text) c.in-Err-Fault.field-0-is refused) c.requires.passes
