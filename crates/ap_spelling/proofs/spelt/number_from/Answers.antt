use Rattle.std.proofs.Common.{◌≡◌, ◌-◌, ◌+◌, ℕ, suc, List, true, false, length, sym, ap, ◌∙◌, subst, arith}
use Rattle.ap_defs.specs.Printing.{has_word}
use Rattle.ap_spelling.specs.Words.{number_from}
use Rattle.ap_spelling.proofs.SpeltLemmas.{number_free, number_taken}
use Rattle.ap_spelling.proofs.spelt.number_from.Goals as goal

pub returns-then-not-contains : goal.returns-then-not-contains
returns-then-not-contains c =
    let words = c.args.words.now in
    let fewer : length words - c.loop-turn._turn ≡ suc (length words - (c.loop-turn._turn + 1)) = let h = c.loop-turn-test.true in omega (arith, h) in
    let free : has_word c.as_str.result.now words ≡ false = sym (c.requires c.as_str.result.now) ∙ sym c.contains.ensures ∙ c.if-not-contains.true in
    sym (number_free words c.args.word.now c.loop-turn.number _ _ fewer (subst (λ (w : List ℕ). has_word w words ≡ false) (c.as_str.ensures.value ∙ c.in_ok-made.ensures) free))
    ∙ c.loop-turn.invariant

pub loop-turn-preserved : goal.loop-turn-preserved
loop-turn-preserved c =
    let words = c.args.words.now in
    let fewer : length words - c.loop-turn._turn ≡ suc (length words - (c.loop-turn._turn + 1)) = let h = c.loop-turn-test.true in omega (arith, h) in
    let taken : has_word c.as_str.result.now words ≡ true = sym (c.requires c.as_str.result.now) ∙ sym c.contains.ensures ∙ c.if-not-contains.false in
    ap (λ n. number_from words c.args.word.now n (length words - (c.loop-turn._turn + 1))) c.saturating_add-number.ensures
    ∙ sym (number_taken words c.args.word.now c.loop-turn.number _ _ fewer (subst (λ (w : List ℕ). has_word w words ≡ true) (c.as_str.ensures.value ∙ c.in_ok-made.ensures) taken))
    ∙ c.loop-turn.invariant
