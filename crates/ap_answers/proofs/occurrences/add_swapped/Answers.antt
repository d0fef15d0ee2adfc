use Rattle.std.proofs.Common.{get_or, arith}
use Rattle.std.proofs.lemmas.List.{get_or_default}
use Rattle.ap_answers.proofs.OccurrenceLemmas.{names_of_swap_next}
use Rattle.ap_answers.proofs.occurrences.add_swapped.Goals as goal

pub loop-swap-preserved : goal.loop-swap-preserved
loop-swap-preserved c =
    let s = get_or c.args.swaps.now c.loop-swap.swap-index (record { sort = 0; left = 0; right = 0 }) in
    names_of_swap_next c.loop-swap.names.keys c.add_swap.new.names.keys _ c.args.swaps.now s c.loop-swap.swap-index (omega arith) (get_or_default c.args.swaps.now c.loop-swap.swap-index _ _ (omega arith)) c.in_ok-add_swap.ensures c.loop-swap.invariant
