-- A seat may go to another thread, and a shared book may be shared: `search` finds neither in one go.
use denote.Param.Send.{IsSend, IsSync, sendable}
use Rattle.std.proofs.Crossing.{crosses}
use Rattle.std.proofs.MapsCrossing.{crosses as maps}
use Rattle.std.specs.contracts.option.Option.{the_row as OptionOf}
use Rattle.atomic_table.specs.contracts.shared.Seat.{the_row as SeatOf}
use Rattle.atomic_table.proofs.shared.Seat.TheSendSync.{the_send as raw}
use Rattle.ap_defs.proofs.paths.Path.TheSendSync.{the_send as path}
use Rattle.ap_defs.proofs.lists.List.TheSendSync.{the_send as list}
use Rattle.ap_defs.proofs.terms.Cond.TheSendSync.{the_send as cond}
use Rattle.ap_defs.proofs.terms.Swap.TheSendSync.{the_send as swap}
use Rattle.ap_defs.proofs.terms.Var.TheSendSync.{the_send as var}
use Rattle.ap_defs.proofs.terms.Term.TheLaws.TheKnot.{crosses as term}
use Rattle.ap_defs.proofs.terms.Ty.TheLaws.TheKnot.{crosses_both as ty}
use Rattle.std.proofs.collections.HashSet.TheSendSync.{the_send as set}
use Rattle.ap_paths.specs.contracts.entries.Entry as E
use Rattle.ap_paths.specs.contracts.runs.Run as R
use Rattle.ap_book.specs.contracts.book.Book as B
use Rattle.ap_tools.specs.contracts.locked.view.View as V
use Rattle.ap_tools.specs.contracts.locked.seat.Seat.{the_row}
use Rattle.ap_tools.specs.contracts.locked.shared.SharedBook as S
use Rattle.atomic_table.proofs.shared.Shared.TheSendSync.{the_sync as shared}
use Rattle.atomic_table.proofs.send_lease.SendLease.TheSendSync.{the_sync as lease}

run_send : IsSend R.the_row
run_send = search (sendable, crosses, maps, list, path, cond, swap, var, term, ty) depth 40

entry_send : IsSend E.the_row
entry_send = search (sendable, crosses, maps, list, path, run_send) depth 20

book_send : IsSend B.the_row
book_send = search (sendable, crosses, maps, entry_send, set) depth 20

pub slot_send : IsSend (OptionOf B.the_row)
slot_send = search (sendable, book_send) depth 12

raw_send : IsSend (SeatOf (OptionOf B.the_row) V.the_row)
raw_send = raw _ _ slot_send

pub seat_send : IsSend the_row
seat_send = record { owned = λ d vs x. ((λ vss. (tt, ((tt, tt), (raw_send.owned x.0.raw vss.1.0, tt)))), tt); leaving = λ k d w. tt }

pub shared_sync : IsSync S.the_row
shared_sync = search (sendable, crosses, slot_send, shared, lease) depth 20
