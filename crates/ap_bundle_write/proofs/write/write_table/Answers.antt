use Rattle.std.proofs.Common.{◌≡◌, ◌++◌, ◌∙◌, length, ap, sym, flat_map, append_assoc}
use Rattle.std.proofs.lemmas.Result.{on_ok_weaker}
use Rattle.ap_bundle.specs.declared.words.Head.TheVariants as head
use Rattle.ap_bundle.specs.Tables.{entry_words}
use Rattle.ap_bundle.specs.Written.{head_line, entry_line, counted_line}
use Rattle.ap_bundle_write.specs.Tables.{held_terms}
use Rattle.ap_bundle_write.proofs.WritingLemmas.{entries_text, mapped}
use Rattle.ap_bundle_write.proofs.write.write_table.Goals as goal

pub returns : goal.returns
returns c =
    let table = held_terms c.args.table.now in
    let out = c.args.out.now.items in
    let same = c.lines-lines.ensures ∙ c.requires.lines in
    let long : length c.lines-lines.result.now ≡ length table = sym (mapped (λ v. v.items) c.lines-lines.result.now) ∙ ap length same ∙ mapped (entry_words table) table in
    let text = ap (flat_map (head_line head.T)) same ∙ entries_text table table in
    let count = c.in_ok-write_count.ensures ∙ ap (λ n. out ++ counted_line head.Terms n) long in
    on_ok_weaker c.write_entries.result
    (λ e. e ∙ ap (λ z. c.write_count.new.out.items ++ z) text ∙ ap (λ z. z ++ flat_map (entry_line table) table) count ∙ append_assoc out (counted_line head.Terms (length table)) (flat_map (entry_line table) table))
    c.write_entries.ensures
