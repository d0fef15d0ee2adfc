use Rattle.std.proofs.Common.{arith, refl, sym, ◌∙◌}
use Rattle.ap_store.specs.Views.{past, present}
use Rattle.ap_store.proofs.StoreLemmas.{next_counts}
use Rattle.ap_machine.specs.Machines.{track_of}
use Rattle.ap_machine.specs.declared.saves.Save.{Save}
use Rattle.ap_machine.proofs.MachineLemmas.{next_here, position_here}
use Rattle.ap_machine.proofs.TrackLemmas.{back_here, within_here}
use Rattle.ap_machine.proofs.machine.Machine.save.Goals as goal

pub returns-clause-within : goal.returns-clause-within
returns-clause-within c =
    let b = c.args.self.now in
    let s : Save = record { mark = c.mark.result; cells = c.size.result; first = c.front.result; path = c.len.result; brought = c.len-2.result } in
    let many = c.size.ensures in
    let first = c.front.ensures.within in
    within_here s (track_of b) (past b.store) (present b.store) refl (sym (next_counts b.store)) c.mark.ensures c.size.ensures (omega (arith, many, first))
    (c.len.ensures ∙ b.path.ok.0) (c.len-2.ensures ∙ b.brought.ok.0)

pub returns-clause-track : goal.returns-clause-track
returns-clause-track c =
    let b = c.args.self.now in
    let s : Save = record { mark = c.mark.result; cells = c.size.result; first = c.front.result; path = c.len.result; brought = c.len-2.result } in
    back_here s (track_of b) (past b.store) (present b.store) refl (sym (next_counts b.store)) c.mark.ensures c.size.ensures
    (c.len.ensures ∙ b.path.ok.0) (c.len-2.ensures ∙ b.brought.ok.0)

pub returns-clause-position : goal.returns-clause-position
returns-clause-position c = position_here c.args.self.now c.front.result c.front.ensures.front

pub returns-clause-next : goal.returns-clause-next
returns-clause-next c = next_here c.args.self.now
