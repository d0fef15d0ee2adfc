-- Those of the choices so far.
use Rattle.std.proofs.Common.{◌≡◌, map, take, is_some}
use Rattle.ap_picks.proofs.choices.found_in.Given as goal

abbrev pub invariant-loop-choice : goal.invariant-loop-choice
invariant-loop-choice l = l.found.items ≡ map is_some (take l.choice-index l.choices)
