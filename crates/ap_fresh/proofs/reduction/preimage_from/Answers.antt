use Rattle.std.proofs.Common.{◌∙◌}
use Rattle.ap_fresh.proofs.RenamedLemmas.{rest_fits, undo_renamed}
use Rattle.ap_fresh.proofs.reduction.preimage_from.Goals as goal

pub loop-swap-preserved : goal.loop-swap-preserved
loop-swap-preserved c = record {
  undone = undo_renamed c.args.base c.args.swaps.now c.loop-swap.swap-index _ c.loop-swap.moved c.swapped-moved.result c.loop-swap-test.true c.swapped-moved.ensures ∙ c.loop-swap.invariant.undone;
  fits = rest_fits c.args.end c.args.base c.args.swaps.now c.loop-swap.swap-index (record { sort = 0; left = 0; right = 0 }) c.loop-swap-test.true c.loop-swap.invariant.fits;
}
