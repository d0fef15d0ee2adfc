use Rattle.std.proofs.Common.{◌++◌, ◌∙◌, ap, map}
use Rattle.std.specs.Prelude.{codes}
use Rattle.ap_shared.specs.SharedViews.{shared_proved}
use Rattle.ap_bundle.specs.Written.{proved_part, term_line, text_lines}
use Rattle.ap_bundle_write.proofs.WritingLemmas.{whole_full}
use Rattle.ap_bundle_write.proofs.write.write_bundle.Goals as goal

pub returns : goal.returns
returns c =
    let start = codes "alphaprolog bundle 1\n" in
    let text = c.in_ok-out.ensures ∙ ap (λ z. start ++ text_lines z) c.items-2.ensures in
    let part = c.deref.ensures.value ∙ c.in_ok-part.ensures.text ∙ ap (λ z. proved_part term_line (map shared_proved z)) c.items.ensures in
    whole_full start (text_lines c.args.bundle.now.text) (proved_part term_line (map shared_proved c.args.bundle.now.proved)) _ _ _ text part c.in_ok-extend_from_slice.ensures.items
