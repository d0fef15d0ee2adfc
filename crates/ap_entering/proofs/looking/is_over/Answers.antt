use Rattle.ap_tools.proofs.OwnEntries.{own_seen}
use Rattle.ap_tools.proofs.Sole.{sole_seen}
use Rattle.ap_tools.proofs.Accounting.{ends_none}
use Rattle.ap_entering.proofs.looking.is_over.Goals as goal

pub returns-in-Left-clause-own : goal.returns-in-Left-clause-own
returns-in-Left-clause-own g c = own_seen _ _ _ c.args.seat.now _ _ c.status.ensures.same.1 c.status.ensures.turn c.requires.own

pub returns-in-Finished-clause-own : goal.returns-in-Finished-clause-own
returns-in-Finished-clause-own g c = own_seen _ _ _ c.args.seat.now _ _ c.status.ensures.same.1 c.status.ensures.turn c.requires.own

pub returns-in-Stopped-clause-own : goal.returns-in-Stopped-clause-own
returns-in-Stopped-clause-own g c = own_seen _ _ _ c.args.seat.now _ _ c.status.ensures.same.1 c.status.ensures.turn c.requires.own

pub returns-in-Left-clause-order : goal.returns-in-Left-clause-order
returns-in-Left-clause-order g c hand = sole_seen c.args.seat.now _ _ hand c.status.ensures.same.1 c.status.ensures.turn

pub returns-in-Finished-clause-order : goal.returns-in-Finished-clause-order
returns-in-Finished-clause-order g c hand = sole_seen c.args.seat.now _ _ hand c.status.ensures.same.1 c.status.ensures.turn

pub returns-in-Stopped-clause-order : goal.returns-in-Stopped-clause-order
returns-in-Stopped-clause-order g c hand = sole_seen c.args.seat.now _ _ hand c.status.ensures.same.1 c.status.ensures.turn

pub returns-in-Left-clause-ended : goal.returns-in-Left-clause-ended
returns-in-Left-clause-ended g c = ends_none c.args.seat.now c.status.new.seat.seen c.status.ensures.turn

pub returns-in-Finished-clause-ended : goal.returns-in-Finished-clause-ended
returns-in-Finished-clause-ended g c = ends_none c.args.seat.now c.status.new.seat.seen c.status.ensures.turn

pub returns-in-Stopped-clause-ended : goal.returns-in-Stopped-clause-ended
returns-in-Stopped-clause-ended g c = ends_none c.args.seat.now c.status.new.seat.seen c.status.ensures.turn
