-- A job may go to another thread.
use denote.RattleType.{RattleType}
use denote.Param.Send.{IsSend, sendable}
use Rattle.ap_tools.specs.declared.deques.placed.Shape.{Ghosts}
use Rattle.ap_tools.proofs.SeatSent.{seat_send}
use Rattle.ap_tools.proofs.Sent.{tools_send as tools}
use Rattle.ap_steal.specs.contracts.jobs.Job.{the_row}

pub job_send : (W : RattleType) (g : Ghosts W.Denot) → IsSend (the_row W g)
job_send W g = let t = tools W g in record { owned = λ d vs vss. (tt, (seat_send.owned d.seat vss.0, (t.owned d.tools vss.1.0, tt))); leaving = search (sendable, t.leaving, seat_send.leaving) depth 12 }
