use Rattle.std.proofs.Common.{arith, ◌∙◌, ℕ, take, ap, sym}
use Rattle.ap_paths.specs.declared.entries.Entry.{Entry}
use Rattle.ap_tools.specs.Turns.{maker_of}
use Rattle.ap_tools.specs.Seats.{logs_of}
use Rattle.ap_tools.specs.Noting.{noted}
use Rattle.ap_tools.proofs.Logging.{one_more}
use Rattle.ap_tools.proofs.locked.logs.note_all.Goals as goal

pub loop-entry-preserved : goal.loop-entry-preserved
loop-entry-preserved c =
    let v = c.loop-entry.invariant in
    let h = c.args.history.now in
    let n = c.args.seats in
    let i = c.loop-entry.entry-index in
    let e = c.entry-item.result in (
      c.in_ok-note.ensures ∙ ap (noted (maker_of e) c.loop-entry.place) v.0
          ∙ ap (λ (k : ℕ). noted (maker_of e) k (logs_of n (take i h))) v.1
          ∙ ap (λ (x : Entry). noted (maker_of x) i (logs_of n (take i h))) c.entry-item.is
          ∙ sym (one_more n i e h c.loop-entry-test.true),
      omega arith,
    )
