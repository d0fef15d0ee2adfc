-- The choices after so many rounds.
use Rattle.std.proofs.Common.{◌≡◌, length, map}
use Rattle.ap_defs.specs.Types.{constructor_of}
use Rattle.ap_picks.specs.Picks.{data_bound}
use Rattle.ap_picks.specs.ChoiceRounds.{AreChoicesAfter}
use Rattle.ap_picks.proofs.choices.choices_of.Given as goal

abbrev pub invariant-loop-rounds : goal.invariant-loop-rounds
invariant-loop-rounds l = record {
  long : length l.choices.items ≡ data_bound (map constructor_of l.constructors);
  after : AreChoicesAfter (map constructor_of l.constructors) l.rounds l.choices.items;
}
