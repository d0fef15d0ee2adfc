use Rattle.std.proofs.Common.{[], ◌++◌, ◌∙◌, ap, sym, map, length, flat_map}
use Rattle.ap_bundle.specs.declared.words.Head.TheVariants as head
use Rattle.ap_shared.specs.SharedViews.{shared_proved}
use Rattle.ap_bundle.specs.Written.{counted_line, head_line, written_line_as, proved_lines}
use Rattle.ap_bundle_write.specs.Tables.{held_terms}
use Rattle.ap_bundle_write.proofs.WritingLemmas.{grown_as_none, mapped}
use Rattle.ap_bundle_write.proofs.write.proved_part.Goals as goal

pub returns-clause-text : goal.returns-clause-text
returns-clause-text c =
    let v = c.args.version in
    let new = held_terms c.write_each.new.table in
    let ps = map shared_proved c.args.proved.now in
    let end = head_line head.End [] in
    let text = flat_map (proved_lines (written_line_as v new)) ps in
    let each = c.in_ok-write_each.ensures.text.text [] ∙ ap (λ u. c.write_count.new.out.items ++ flat_map (proved_lines (written_line_as v u)) ps) (grown_as_none v new) in
    let count = c.in_ok-write_count.ensures ∙ ap (λ z. z ++ counted_line head.Derivations (length c.args.proved.now)) c.new-out.ensures.items ∙ ap (λ n. counted_line head.Derivations n) (sym (mapped shared_proved c.args.proved.now)) in
    c.in_ok-write_line.ensures ∙ ap (λ z. z ++ end) (each ∙ ap (λ z. z ++ text) count)
