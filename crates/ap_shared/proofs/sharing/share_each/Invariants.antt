-- Those so far, and those that are left, are all.
use Rattle.std.proofs.Common.{◌≡◌, ◌++◌, drop, map}
use Rattle.ap_bundle.specs.Bundles.{proved_of}
use Rattle.ap_shared.specs.SharedViews.{shared_proved}
use Rattle.ap_shared.proofs.sharing.share_each.Given as goal

abbrev pub invariant-loop-proved : goal.invariant-loop-proved
invariant-loop-proved l = map shared_proved l.each.items ++ map proved_of (drop l.proved-index l.all) ≡ map proved_of l.all
