use Rattle.std.proofs.Common.{rules}
use Rattle.ap_tools.proofs.Shutting.{may_shut, adds_nothing}
use Rattle.ap_tools.proofs.locked.shared.SharedBook.status.Goals as goal

pub shut-requires : goal.shut-requires
shut-requires g c =
    let o = c.open-book.ensures in
    let n = c.seat.inside.number in
    (search rules, may_shut n _ _ _ _ _ c.seat.invariant o.1 (adds_nothing n c.open-book.result))
