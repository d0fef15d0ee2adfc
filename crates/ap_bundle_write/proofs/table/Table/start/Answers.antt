use Rattle.std.proofs.Common.{◌≡◌, ℕ, Option, None, Some, rules, sym, ◌∙◌}
use Rattle.std.specs.BTreeMap.{get}
use Rattle.std.specs.Ordering.{nat_cmp}
use Rattle.ap_bundle_write.proofs.table.Table.start.Goals as goal

pub returns-clause-entering : goal.returns-clause-entering
returns-clause-entering c = λ ts. record {
  table = record { lines = c.requires.lines; parts = c.requires.parts };
  entered = λ i n e.
      let none : get nat_cmp c.new.result i ≡ None = search rules in
      let never : ◌≡◌ {A = Option ℕ} (Some n) None = sym e ∙ none in
      cc;
}
