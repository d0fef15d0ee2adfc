use Rattle.ap_store.proofs.StoreLemmas.{gone_back}
use Rattle.ap_store.proofs.store.Store.add.Goals as goal

pub returns-in-Err-clause-unchanged : goal.returns-in-Err-clause-unchanged
returns-in-Err-clause-unchanged c =
    gone_back c.args.self.now c.add_each.new.self c.undo_to.new.self c.mark-start.result.place c.add_each.ensures.past c.add_each.ensures.kinds c.mark-start.ensures c.undo_to.ensures.versions c.undo_to.ensures.kinds

pub returns-in-Err-clause-kinds : goal.returns-in-Err-clause-kinds
returns-in-Err-clause-kinds c =
    (gone_back c.args.self.now c.add_each.new.self c.undo_to.new.self c.mark-start.result.place c.add_each.ensures.past c.add_each.ensures.kinds c.mark-start.ensures c.undo_to.ensures.versions
    c.undo_to.ensures.kinds).1
