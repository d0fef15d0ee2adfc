use Rattle.std.proofs.Common.{sym, ap, ◌∙◌}
use Rattle.std.specs.Str.{bytes_eq}
use Rattle.ap_bundle.specs.Words.{letter_of, letter_text, letters}
use Rattle.ap_bundle_read.proofs.FindLemmas.{found_further, found_here}
use Rattle.ap_bundle_read.proofs.words.letter.Goals as goal

pub returns-then-eq : goal.returns-then-eq
unfolding letter_of
returns-then-eq c =
    let text = c.args.text.now in
    found_here (λ k. bytes_eq (letter_text k) text) c.all-letter-items.result.now letters c.all-letter-items.ensures c.loop-letter.letter-index _ c.loop-letter-test.true
    (ap (λ bs. bytes_eq bs text) (sym (c.as_bytes.ensures.value ∙ c.text.ensures)) ∙ sym c.eq.ensures ∙ c.if-eq.true) c.loop-letter.invariant

pub loop-letter-preserved : goal.loop-letter-preserved
loop-letter-preserved c =
    let text = c.args.text.now in
    found_further (λ k. bytes_eq (letter_text k) text) c.all-letter-items.result.now letters c.all-letter-items.ensures c.loop-letter.letter-index _ c.loop-letter-test.true
    (ap (λ bs. bytes_eq bs text) (sym (c.as_bytes.ensures.value ∙ c.text.ensures)) ∙ sym c.eq.ensures ∙ c.if-eq.false) c.loop-letter.invariant
