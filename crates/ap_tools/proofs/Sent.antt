-- Tools may go to another thread.
use denote.RattleType.{RattleType}
use denote.Param.Send.{IsSend}
use Rattle.ap_tools.specs.declared.deques.placed.Shape.{Ghosts}
use Rattle.ap_tools.proofs.tools.Tools.TheSendSync.{the_send}
use Rattle.ap_tools.specs.contracts.tools.Tools.{the_row}

pub tools_send : (W : RattleType) (g : Ghosts W.Denot) → IsSend (the_row W g)
tools_send W g = the_send W g
