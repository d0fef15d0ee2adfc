use Rattle.std.proofs.Common.{◌≡◌, []}
use Rattle.ap_tools.specs.States.{over, start_state}
use Rattle.ap_play.specs.Stages.{state_of}
use Rattle.ap_play.proofs.playing.gather.Given as goal

abbrev pub invariant-loop-i : goal.invariant-loop-i
invariant-loop-i l = state_of l.team.items (over [] []) ≡ start_state l._i
