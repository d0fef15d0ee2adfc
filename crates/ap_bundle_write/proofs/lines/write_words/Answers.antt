use Rattle.std.proofs.Common.{◌∙◌, ap, sym, ◌++◌, append_assoc, map}
use Rattle.std.specs.List.{join_with_byte}
use Rattle.ap_bundle.specs.Words.{word_text}
use Rattle.ap_bundle_write.specs.Spaces.{spaced}
use Rattle.ap_bundle_write.proofs.SpaceLemmas.{joined}
use Rattle.ap_bundle_write.proofs.lines.write_words.Goals as goal

pub returns : goal.returns
returns c =
    let first = c.in-Some.first.now in
    let others = c.in-Some.others.now in
    c.in_ok-write_spaced.ensures ∙ ap (λ z. z ++ spaced others) c.in_ok-write_word.ensures ∙ append_assoc c.args.out.now.items (word_text first) (spaced others)
    ∙ ap (λ z. c.args.out.now.items ++ z) (sym (ap (λ ws. join_with_byte 32 (map word_text ws)) c.in-Some.ensures.cases.0 ∙ joined first others))
