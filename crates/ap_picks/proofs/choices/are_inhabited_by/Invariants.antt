-- What is left of the arguments decides.
use Rattle.std.proofs.Common.{◌≡◌, length, map}
use Rattle.ap_defs.specs.Types.{type_of}
use Rattle.ap_types.specs.Inhabited.{all_inhabited}
use Rattle.ap_types.specs.Rounds.{marked}
use Rattle.ap_picks.proofs.choices.are_inhabited_by.Given as goal

abbrev pub invariant-testing : goal.invariant-testing
invariant-testing l = all_inhabited (marked l.found) (map type_of l.rest) ≡ all_inhabited (marked l.fn.found) (map type_of l.fn.args)

abbrev pub decreases-testing : goal.decreases-testing
decreases-testing l = length l.rest
