use Rattle.ap_paths.specs.declared.entries.Entry.TheVariants.{Split}
use Rattle.ap_tools.proofs.OwnEntries.{own_split}
use Rattle.ap_entering.proofs.entering.split_planned.Goals as goal

pub returns-clause-own : goal.returns-clause-own
returns-clause-own g c =
    let t = c.split.ensures.turn in
    let n = c.args.seat.now.number in
    own_split _ _ _ c.args.seat.now _ t.0 _ c.args.path.now (Split n c.args.path.now c.args.given.now) c.split.result c.split.ensures.same.1 t.1 (c.requires.planned, tt) t.2 c.requires.own
