-- The constructors so far were looked at.
use Rattle.std.proofs.Common.{◌≡◌, ℕ, false, length, map, take}
use Rattle.ap_defs.specs.Types.{constructor_of}
use Rattle.ap_types.specs.Inhabited.{all_inhabited}
use Rattle.ap_types.specs.Rounds.{marked, reached}
use Rattle.ap_picks.specs.ChoiceRounds.{AreChoicesAfter, AreChoicesWithin}
use Rattle.ap_picks.proofs.choices.go_round.Given as goal

abbrev pub invariant-loop-place : goal.invariant-loop-place
invariant-loop-place l = record {
  as_long : length l.choices.items ≡ length l.fn.choices.items;
  same : l.more ≡ false → l.choices.items ≡ l.fn.choices.items;
  within :
      let cs = map constructor_of l.constructors in
      ((d : ℕ) → marked l.found d ≡ reached all_inhabited cs l.rounds d) → AreChoicesAfter cs l.rounds l.fn.choices.items
      → AreChoicesWithin cs l.rounds (take l.place cs) l.choices.items;
}
