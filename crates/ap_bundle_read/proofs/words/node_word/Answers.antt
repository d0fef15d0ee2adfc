use Rattle.std.proofs.Common.{sym, ap, ◌∙◌}
use Rattle.std.specs.Str.{bytes_eq}
use Rattle.ap_bundle.specs.Words.{node_word_of, node_text, node_words}
use Rattle.ap_bundle_read.proofs.FindLemmas.{found_further, found_here}
use Rattle.ap_bundle_read.proofs.words.node_word.Goals as goal

pub returns-then-eq : goal.returns-then-eq
unfolding node_word_of
returns-then-eq c =
    let text = c.args.text.now in
    found_here (λ k. bytes_eq (node_text k) text) c.all-word-items.result.now node_words c.all-word-items.ensures c.loop-word.word-index _ c.loop-word-test.true
    (ap (λ bs. bytes_eq bs text) (sym (c.as_bytes.ensures.value ∙ c.text.ensures)) ∙ sym c.eq.ensures ∙ c.if-eq.true) c.loop-word.invariant

pub loop-word-preserved : goal.loop-word-preserved
loop-word-preserved c =
    let text = c.args.text.now in
    found_further (λ k. bytes_eq (node_text k) text) c.all-word-items.result.now node_words c.all-word-items.ensures c.loop-word.word-index _ c.loop-word-test.true
    (ap (λ bs. bytes_eq bs text) (sym (c.as_bytes.ensures.value ∙ c.text.ensures)) ∙ sym c.eq.ensures ∙ c.if-eq.false) c.loop-word.invariant
