use Rattle.std.proofs.Common.{rules, ◌≡◌, ◌∙◌, true, false, sym, ap}
use Rattle.ap_paths.specs.declared.entries.Entry.{Entry}
use Rattle.ap_paths.specs.Entries.{entry_of}
use Rattle.ap_paths.specs.History.{is_stop}
use Rattle.ap_tools.proofs.Whole.{stop_at, no_stop_yet}
use Rattle.ap_steal.proofs.run.stands.Goals as goal

pub returns-then-is_stop_entry : goal.returns-then-is_stop_entry
returns-then-is_stop_entry c =
    let is : is_stop (entry_of c.entry-item.result) ≡ true = search rules in
    sym (stop_at c.args.history.now c.loop-entry.entry-index c.entry-item.result c.loop-entry-test.true (ap (λ (e : Entry). is_stop (entry_of e)) (sym c.entry-item.is) ∙ is))

pub loop-entry-preserved : goal.loop-entry-preserved
loop-entry-preserved c =
    let is : is_stop (entry_of c.entry-item.result) ≡ false = search rules in
    no_stop_yet c.args.history.now c.loop-entry.entry-index c.entry-item.result c.loop-entry-test.true c.loop-entry.invariant (ap (λ (e : Entry). is_stop (entry_of e)) (sym c.entry-item.is) ∙ is)
