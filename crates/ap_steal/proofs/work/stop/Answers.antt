use Rattle.ap_tools.proofs.OwnEntries.{own_stop, stop_stands}
use Rattle.ap_steal.proofs.work.stop.Goals as goal

pub returns-clause-own : goal.returns-clause-own
returns-clause-own g c = let t = c.stop.ensures.turn in own_stop _ _ _ c.args.seat.now _ t.0 _ c.stop.ensures.same.1 t.1 t.2 c.requires.own

pub returns-clause-stands : goal.returns-clause-stands
returns-clause-stands g c = let t = c.stop.ensures.turn in stop_stands c.args.seat.now.number t.0 _ t.2
