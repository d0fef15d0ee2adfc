-- The swappings so far, and those that are left, are all.
use Rattle.std.proofs.Common.{◌≡◌, ◌-◌}
use Rattle.std.specs.Prelude.{reverse}
use Rattle.ap_bundle.specs.Forms.{swaps, with_swaps}
use Rattle.ap_bundle_read.proofs.numbers.swaps.Given as goal

abbrev pub invariant-loop : goal.invariant-loop
invariant-loop l = with_swaps l.all.items (swaps (l.count - l.counter) (reverse l.numbers.items)) ≡ swaps l.count (reverse l.fn.numbers.items)
