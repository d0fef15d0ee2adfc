-- A question may go to another thread: `search` does not find that by itself.
use denote.Param.Send.{IsSend, sendable}
use denote.Ref.{NamedLft}
use Rattle.std.proofs.Crossing.{crosses}
use Rattle.ap_defs.proofs.lists.List.TheSendSync.{the_sync as list}
use Rattle.ap_defs.proofs.lists.Swaps.TheSendSync.{the_sync as swaps}
use Rattle.ap_defs.proofs.lists.SharedText.TheSendSync.{the_sync as shared}
use Rattle.ap_defs.proofs.goals.Goal.TheLaws.TheKnot.{crosses as goal}
use Rattle.ap_defs.proofs.terms.Term.TheLaws.TheKnot.{crosses as term}
use Rattle.ap_defs.proofs.terms.Ty.TheLaws.TheKnot.{crosses_both as ty}
use Rattle.ap_derive.specs.contracts.counting.uses.Question.{the_row}

pub question_send : (a : NamedLft) → IsSend (the_row a)
question_send a = search (sendable, crosses, list, swaps, shared, ty, term, goal) depth 70 fits 300000
