use Rattle.std.proofs.Common.{◌≡◌, ◌+◌, ◌-◌, suc, arith}
use Rattle.ap_answers.specs.Words.{knows}
use Rattle.ap_answers.proofs.FreeLemmas.{kept_next}
use Rattle.ap_answers.proofs.words.free_numbers.Goals as goal

pub loop-i-preserved : goal.loop-i-preserved
loop-i-preserved c =
    let tried = c.count_beginning-tried.result in
    let one : tried - c.loop-i.i ≡ suc (tried - (c.loop-i.i + 1)) = omega arith in
    kept_next c.args.letter.now c.args.words.now (knows c.args.taken.now) (c.loop-i.i + 1) (tried - c.loop-i.i) (tried - (c.loop-i.i + 1))
    c.loop-i.numbers.items c.keep_number.new.numbers.items _ c.requires one c.in_ok-keep_number.ensures c.loop-i.invariant
