use Rattle.std.proofs.Common.{refl}
use Rattle.ap_store.proofs.slots.bare_of.Goals as goal

pub returns : goal.returns
returns c = (c.args.c.now.swaps.items, refl)
