use Rattle.ap_paths.specs.declared.entries.Entry.TheVariants.{Done}
use Rattle.ap_tools.proofs.OwnEntries.{own_done}
use Rattle.ap_entering.proofs.entering.done_planned.Goals as goal

pub returns-clause-own : goal.returns-clause-own
returns-clause-own g c =
    let t = c.done.ensures.turn in
    let n = c.args.seat.now.number in
    own_done _ _ _ c.args.seat.now _ t.0 _ c.args.path.now c.args.given.items (Done n c.args.path.now c.args.given.items) c.done.result c.done.ensures.same.1 t.1 (c.requires.planned, tt) t.2 c.requires.own
