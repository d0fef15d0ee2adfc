use Rattle.std.proofs.Common.{◌-◌, ◌+◌, arith, sym, ◌∙◌}
use Rattle.std.specs.Prelude.{reverse}
use Rattle.ap_bundle_read.proofs.LoopLemmas.{swaps_on, swaps_fail}
use Rattle.ap_bundle_read.proofs.numbers.swaps.Goals as goal

pub returns-in_default : goal.returns-in_default
returns-in_default c =
    sym (swaps_fail (c.args.count - c.loop.counter) (c.args.count - (c.loop.counter + 1)) c.loop.all.items (reverse c.loop.numbers.items) (omega arith) (sym c.in_default.ensures)) ∙ c.loop.invariant

pub loop-preserved : goal.loop-preserved
loop-preserved c =
    let next = swaps_on (c.args.count - c.loop.counter) (c.args.count - (c.loop.counter + 1)) c.loop.all.items (reverse c.loop.numbers.items) (reverse c.a_swap.new.numbers.items) c.in-Some.swap (omega arith) (sym c.in-Some.ensures) in
    rw c.in_ok-push.ensures.items (next ∙ c.loop.invariant)
