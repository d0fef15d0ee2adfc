use Rattle.std.proofs.Common.{rules, refl}
use Rattle.ap_paths.specs.declared.entries.Entry.TheVariants.{Split}
use Rattle.ap_book.specs.Answers.{Enters}
use Rattle.ap_tools.proofs.Shutting.{may_shut, adds_entered}
use Rattle.ap_tools.proofs.locked.shared.SharedBook.split.Goals as goal

pub shut-requires : goal.shut-requires
shut-requires g c =
    let o = c.open-book.ensures in
    let n = c.seat.inside.number in
    (search rules, may_shut n _ _ _ _ _ c.seat.invariant o.1 (adds_entered n c.open-book.result _ _ _ _ refl (c.enter_split-answer.ensures c.args.kids.now (search rules))))

pub returns-clause-turn : goal.returns-clause-turn
returns-clause-turn g c =
    let entered : Enters c.open-book.result c.args.path.now (Split c.seat.inside.number c.args.path.now c.args.kids.now) c.enter_split-answer.result c.enter_split-answer.new.self = c.enter_split-answer.ensures c.args.kids.now (search rules) in
    search rules
