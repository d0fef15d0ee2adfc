-- Indexes may be shared between threads: `search` does not find that by itself.
use denote.Param.Send.{IsSync, sendable}
use denote.Ref.{NamedLft}
use Rattle.std.proofs.Crossing.{crosses}
use Rattle.std.proofs.MapsCrossing.{crosses as maps}
use Rattle.ap_defs.proofs.lists.List.TheSendSync.{the_sync as list}
use Rattle.ap_defs.proofs.lists.Text.TheSendSync.{the_sync as text}
use Rattle.ap_defs.proofs.lists.Swaps.TheSendSync.{the_sync as swaps}
use Rattle.ap_defs.proofs.lists.SharedText.TheSendSync.{the_sync as shared}
use Rattle.ap_defs.proofs.goals.Goal.TheLaws.TheKnot.{crosses as goal}
use Rattle.ap_defs.proofs.terms.Term.TheLaws.TheKnot.{crosses as term}
use Rattle.ap_defs.proofs.terms.Ty.TheLaws.TheKnot.{crosses_both as ty}
use Rattle.ap_program.proofs.Shared.{restricted_sync}
use Rattle.ap_index.specs.contracts.predicate.Predicate as P
use Rattle.ap_index.specs.contracts.index.Index as I

pub predicate_sync : (a : NamedLft) → IsSync (P.the_row a)
predicate_sync a = search (sendable, crosses, maps, list, text, swaps, shared, ty, term, goal) depth 40 fits 300000

pub index_sync : (a : NamedLft) → IsSync (I.the_row a)
index_sync a = search (sendable, crosses, restricted_sync, predicate_sync) depth 30 fits 300000
