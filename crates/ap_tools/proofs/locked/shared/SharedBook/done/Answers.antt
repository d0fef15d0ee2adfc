use Rattle.std.proofs.Common.{rules, refl}
use Rattle.ap_tools.proofs.Shutting.{may_shut, adds_ended}
use Rattle.ap_tools.proofs.locked.shared.SharedBook.done.Goals as goal

pub shut-requires : goal.shut-requires
shut-requires g c =
    let o = c.open-book.ensures in
    let n = c.seat.inside.number in
    (search rules, may_shut n _ _ _ _ _ c.seat.invariant o.1 (adds_ended n c.open-book.result _ _ _ _ _ refl c.done-answer.ensures))
