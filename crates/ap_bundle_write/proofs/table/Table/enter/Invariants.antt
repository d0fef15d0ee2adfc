-- The steps that are left lead to the table with the term and its parts.
use Rattle.std.proofs.Common.{◌≡◌, List, map}
use Rattle.std.specs.Prelude.{reverse}
use Rattle.ap_defs.specs.Terms.{NominalTerm}
use Rattle.std.specs.List.{AllByRecursion as Each}
use Rattle.ap_bundle.specs.Tables.{line_of, with_table_terms, with_parts, Has}
use Rattle.ap_shared.specs.Shared.{shared_at}
use Rattle.ap_shared.specs.SharedViews.{shared_terms}
use Rattle.ap_bundle_write.specs.Tables.{IsEntering, held_terms, steps_of}
use Rattle.ap_bundle_write.proofs.WalkLemmas.{Leads, weigh}
use Rattle.ap_bundle_write.proofs.table.Table.enter.Given as goal

abbrev pub invariant-loop-task : goal.invariant-loop-task
invariant-loop-task l = record {
  entering : IsEntering (shared_terms l.terms) l.self;
  walk : (ts : List NominalTerm) × (reverse l.numbers.items ≡ map (line_of (held_terms l.self)) ts) × Each (Has (held_terms l.self)) ts
      × Leads (steps_of (shared_terms l.terms) l.tasks.items) (held_terms l.self) ts (with_table_terms (held_terms l.fn.self) (with_parts (shared_at (shared_terms l.terms) l.fn.line))) (shared_at (shared_terms l.terms) l.fn.line);
}

abbrev pub decreases-loop-task : goal.decreases-loop-task
decreases-loop-task l = weigh (steps_of (shared_terms l.terms) l.tasks.items)
