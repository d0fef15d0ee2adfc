-- A restricted program may be shared between threads: `search` does not find that by itself.
use denote.Param.Send.{IsSync, sendable}
use Rattle.std.proofs.Crossing.{crosses}
use Rattle.std.proofs.MapsCrossing.{crosses as maps}
use Rattle.ap_defs.proofs.lists.List.TheSendSync.{the_sync as list}
use Rattle.ap_defs.proofs.lists.Text.TheSendSync.{the_sync as text}
use Rattle.ap_defs.proofs.lists.Swaps.TheSendSync.{the_sync as swaps}
use Rattle.ap_defs.proofs.lists.SharedText.TheSendSync.{the_sync as shared}
use Rattle.ap_defs.proofs.goals.Goal.TheLaws.TheKnot.{crosses as goal}
use Rattle.ap_defs.proofs.terms.Term.TheLaws.TheKnot.{crosses as term}
use Rattle.ap_defs.proofs.terms.Ty.TheLaws.TheKnot.{crosses_both as ty}
use Rattle.ap_program.specs.contracts.restricted.Restricted.{the_row}

pub restricted_sync : IsSync the_row
restricted_sync = search (sendable, crosses, maps, list, text, swaps, shared, ty, term, goal) depth 70 fits 300000
