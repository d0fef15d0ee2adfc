use Rattle.std.proofs.Common.{take}
use Rattle.ap_tools.specs.States.{start_state}
use Rattle.ap_tools.specs.Steps.{AreSteps}
use Rattle.ap_play.specs.Stages.{state_of, past_of}
use Rattle.ap_play.proofs.playing.play.Given as goal

abbrev pub invariant-loop-event : goal.invariant-loop-event
invariant-loop-event g l = AreSteps (g.T.Tree.choices l.tree) (g.T.Tree.at l.tree) (start_state l.workers) (take l.event-index l.events) (state_of l.team.items (past_of l.endings l.skipped.items))
