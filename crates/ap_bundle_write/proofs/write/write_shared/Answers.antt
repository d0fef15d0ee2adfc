use Rattle.std.proofs.Common.{◌++◌, ◌∙◌, ap, map, flat_map}
use Rattle.std.specs.Prelude.{codes}
use Rattle.ap_bundle.specs.declared.words.Head.TheVariants as head
use Rattle.ap_shared.specs.SharedViews.{shared_proved}
use Rattle.ap_bundle.specs.Tables.{grown, terms_of, table_of}
use Rattle.ap_bundle.specs.Written.{listed, entry_line, shared_line, proved_part, text_lines}
use Rattle.ap_bundle_write.proofs.WritingLemmas.{whole_shared}
use Rattle.ap_bundle_write.proofs.write.write_shared.Goals as goal

pub returns : goal.returns
returns c =
    let start = codes "alphaprolog bundle 2\n" in
    let ps = map shared_proved c.args.bundle.now.proved in
    let table = table_of ps in
    let same = c.in_ok-part.ensures.held ∙ ap (λ z. grown z (flat_map terms_of (map shared_proved c.items.result.now))) c.new-table.ensures.none ∙ ap (λ z. table_of (map shared_proved z)) c.items.ensures in
    let text = c.in_ok-out.ensures ∙ ap (λ z. start ++ text_lines z) c.items-2.ensures in
    let entries = c.in_ok-write_table.ensures ∙ ap (λ u. c.in_ok-out.out.items ++ listed head.Terms (entry_line u) u) same in
    let part = c.deref.ensures.value ∙ c.in_ok-part.ensures.text ∙ ap (λ u. proved_part (shared_line u) (map shared_proved c.items.result.now)) same ∙ ap (λ z. proved_part (shared_line table) (map shared_proved z)) c.items.ensures in
    whole_shared start (text_lines c.args.bundle.now.text) (listed head.Terms (entry_line table) table) (proved_part (shared_line table) ps) _ _ _ _ text entries part c.in_ok-extend_from_slice.ensures.items
