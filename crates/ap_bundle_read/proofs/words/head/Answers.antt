use Rattle.std.proofs.Common.{sym, ap, ◌∙◌}
use Rattle.std.specs.Str.{bytes_eq}
use Rattle.ap_bundle.specs.Words.{head_of, head_text, heads}
use Rattle.ap_bundle_read.proofs.FindLemmas.{found_further, found_here}
use Rattle.ap_bundle_read.proofs.words.head.Goals as goal

pub returns-then-eq : goal.returns-then-eq
unfolding head_of
returns-then-eq c =
    let text = c.args.text.now in
    found_here (λ k. bytes_eq (head_text k) text) c.all-head-items.result.now heads c.all-head-items.ensures c.loop-head.head-index _ c.loop-head-test.true
    (ap (λ bs. bytes_eq bs text) (sym (c.as_bytes.ensures.value ∙ c.text.ensures)) ∙ sym c.eq.ensures ∙ c.if-eq.true) c.loop-head.invariant

pub loop-head-preserved : goal.loop-head-preserved
loop-head-preserved c =
    let text = c.args.text.now in
    found_further (λ k. bytes_eq (head_text k) text) c.all-head-items.result.now heads c.all-head-items.ensures c.loop-head.head-index _ c.loop-head-test.true
    (ap (λ bs. bytes_eq bs text) (sym (c.as_bytes.ensures.value ∙ c.text.ensures)) ∙ sym c.eq.ensures ∙ c.if-eq.false) c.loop-head.invariant
