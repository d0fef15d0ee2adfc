-- The names that come are still to be exchanged in what those before have left.
use Rattle.std.proofs.Common.{List}
use Rattle.std.specs.BTreeMap.{get}
use Rattle.ap_defs.specs.Permutations.{inverse}
use Rattle.ap_defs.specs.declared.terms.Swap.{Swap}
use Rattle.ap_perm.specs.Images.{AreImages, key_cmp}
use Rattle.ap_perm.proofs.ExchangeLemmas.{StandsAt}
use Rattle.ap_perm.proofs.swappings.exchanged.Given as goal

abbrev pub invariant-loop-a : goal.invariant-loop-a
invariant-loop-a l =
    (p : List Swap) → AreImages p (get key_cmp l.initial.images) → AreImages (inverse p) (get key_cmp l.initial.origins)
    → StandsAt p l.a-items l.a-index l.swaps.items (get key_cmp l.images) (get key_cmp l.origins)
