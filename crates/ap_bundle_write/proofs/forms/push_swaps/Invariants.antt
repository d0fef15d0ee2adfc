-- What is written so far, and the swappings that are left, are all.
use Rattle.std.proofs.Common.{◌≡◌, ◌++◌, drop, flat_map}
use Rattle.ap_bundle.specs.Forms.{swap_words}
use Rattle.ap_bundle_write.proofs.forms.push_swaps.Given as goal

abbrev pub invariant-loop-swap : goal.invariant-loop-swap
invariant-loop-swap l = l.words.items ++ flat_map swap_words (drop l.swap-index l.swaps) ≡ l.fn.words.items ++ flat_map swap_words l.swaps
