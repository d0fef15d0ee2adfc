use Rattle.std.proofs.Common.{◌∙◌, ap, sym}
use Rattle.std.specs.BTreeMap.{get}
use Rattle.std.specs.Ordering.{nat_cmp}
use Rattle.ap_shared.specs.SharedViews.{shared_terms}
use Rattle.ap_bundle_write.specs.Tables.{held_terms}
use Rattle.ap_bundle_write.proofs.WalkLemmas.{entered_more}
use Rattle.ap_bundle_write.proofs.table.Table.add_line.Goals as goal

pub returns-clause-entering : goal.returns-clause-entering
returns-clause-entering c =
    let t = c.in_ok-number.ensures.table in
    record {
      table = record { lines = t.lines; parts = t.parts };
      entered = entered_more (shared_terms c.args.terms.now) (held_terms c.args.self.now) (held_terms c.add.new.self) c.args.line c.in_ok-number.number (get nat_cmp c.add.new.self.entered) (get nat_cmp c.insert.new.self)
          c.in_ok-number.ensures.held c.in_ok-number.ensures.number (λ i. c.in_ok-insert.ensures.updates.0 i) (rw c.in_ok-number.ensures.entered c.requires.entering.entered);
    }
