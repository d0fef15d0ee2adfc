use Rattle.std.proofs.Common.{◌-◌, ◌<◌, inl, inr, arith, length, refl, sym}
use Rattle.ap_bundle.specs.declared.words.Word.TheVariants as words
use Rattle.ap_bundle_read.proofs.LoopLemmas.{numbers_stop}
use Rattle.ap_bundle_read.proofs.table.entries.numbers_of.Goals as goal

pub returns-in-Letter : goal.returns-in-Letter
returns-in-Letter c =
    let ws = c.args.words.now in
    let i = c.loop-left.left - 1 in
    let within : i < length ws = omega (arith, c.loop-left.invariant.within, c.loop-left-test.true) in
    elim c.in-Letter.is [
      | inl l ↦ sym (numbers_stop i ws _ (words.Letter l.0) within l.1 refl)
      | inr other ↦ elim other [
        | inl k ↦ sym (numbers_stop i ws _ (words.Node k.0) within k.1 refl)
        | inr h ↦ sym (numbers_stop i ws _ (words.Head h.0) within h.1 refl)
      ]
    ]
