use Rattle.std.proofs.Common.{◌∙◌, [], ap}
use Rattle.ap_tools.specs.States.{over}
use Rattle.ap_play.specs.Stages.{state_of}
use Rattle.ap_play.proofs.Stepping.{one_more}
use Rattle.ap_play.proofs.playing.gather.Goals as goal

pub loop-i-preserved : goal.loop-i-preserved
loop-i-preserved c =
    ap (λ ws. state_of ws (over [] [])) c.in_ok-push-2.ensures.items ∙ one_more c.loop-i.team.items c.new.result c.loop-i._i c.loop-i.auto._i c.new.ensures.hand c.new.ensures.deque c.loop-i.invariant
