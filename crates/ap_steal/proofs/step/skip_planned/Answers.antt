use Rattle.ap_tools.proofs.OwnEntries.{own_skip}
use Rattle.ap_steal.proofs.step.skip_planned.Goals as goal

pub returns-clause-own : goal.returns-clause-own
returns-clause-own g c =
    let t = c.skip.ensures.turn in
    own_skip _ _ _ c.args.seat.now _ t.0 _ c.args.path.now c.skip.result c.skip.ensures.same.1 t.1 c.requires.there t.2 c.requires.own
