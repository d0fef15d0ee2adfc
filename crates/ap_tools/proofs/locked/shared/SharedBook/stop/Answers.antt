use Rattle.std.proofs.Common.{rules, refl}
use Rattle.ap_paths.specs.declared.entries.Entry.TheVariants.{Stop}
use Rattle.ap_paths.specs.Entries.{entries_of}
use Rattle.ap_paths.specs.History.{has_stop}
use Rattle.ap_tools.proofs.Shutting.{may_shut, adds_stop}
use Rattle.ap_tools.proofs.locked.shared.SharedBook.stop.Goals as goal

pub shut-requires : goal.shut-requires
shut-requires g c =
    let o = c.open-book.ensures in
    let n = c.seat.inside.number in
    (search rules, may_shut n _ _ _ _ _ c.seat.invariant o.1 (adds_stop n c.open-book.result _ (has_stop (entries_of c.open-book.result)) (Stop n) refl c.stop.ensures))
