use Rattle.std.proofs.Common.{arith}
use Rattle.ap_checker.proofs.FreeLemmas.{swaps_next}
use Rattle.ap_checker.proofs.free.add_swaps.Goals as goal

pub loop-s-preserved : goal.loop-s-preserved
loop-s-preserved c =
    swaps_next c.args.swaps.now c.loop-s.s-index _ c.args.names.now.items c.add_swap.new.names.items c.loop-s.names.items (omega arith) c.loop-s.invariant c.in_ok-add_swap.ensures
