use Rattle.std.proofs.Common.{◌≡◌, [], take}
use Rattle.ap_defs.specs.Freshness.{add_conds}
use Rattle.ap_store.specs.Slots.{all_held}
use Rattle.ap_store.proofs.held.set_of.Given as goal

abbrev pub invariant-gathering : goal.invariant-gathering
invariant-gathering l = l.all.items ≡ add_conds (all_held (take l.conds-index l.held)) []
