use Rattle.std.proofs.Common.{ℕ, List, Bor, sym, ◌∙◌}
use Rattle.ap_bundle_read.proofs.LoopLemmas.{words_next, words_stop}
use Rattle.ap_bundle_read.proofs.words.words_of.Goals as goal

pub returns-in_default : goal.returns-in_default
returns-in_default c =
    words_stop (λ (x : Bor (List ℕ)). x.now) c.args.texts.now c.loop-text.text-index _ c.loop-text-test.true c.loop-text.words.items _ c.loop-text.invariant (sym c.word_of.ensures ∙ c.in_default.is)

pub loop-text-preserved : goal.loop-text-preserved
loop-text-preserved c =
    words_next (λ (x : Bor (List ℕ)). x.now) c.args.texts.now c.loop-text.text-index _ c.loop-text-test.true c.loop-text.words.items _ c.loop-text.invariant c.push.new.self.items c.in-Some.word
    (sym c.word_of.ensures ∙ c.in-Some.is) c.in_ok-push.ensures.items
