use Rattle.std.proofs.Common.{ap, ◌∙◌}
use Rattle.ap_spelling.specs.Spelt.{last_of}
use Rattle.ap_spelling.specs.Words.{numbered_next}
use Rattle.ap_steps.proofs.GivenLemmas.{kept_next}
use Rattle.ap_steps.proofs.spellings.keep_each.Goals as goal

pub loop-i-preserved : goal.loop-i-preserved
loop-i-preserved c =
    kept_next c.args.words.now c.loop-i.i c.index-words-i.result (last_of c.loop-i.last) (last_of c.set_last.new.last) _ c.loop-i-test.true c.index-words-i.is
    (c.in_ok-set_last.ensures ∙ ap (λ w. numbered_next w 0 (last_of c.loop-i.last)) c.as_str.ensures) c.loop-i.invariant
