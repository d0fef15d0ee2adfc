-- The steps that are left lead to the table with the term behind its parts.
use Rattle.std.proofs.Common.{◌++◌, length, map}
use Rattle.std.specs.Prelude.{reverse}
use Rattle.ap_defs.specs.Terms.{term_of}
use Rattle.ap_bundle.specs.Tables.{with_parts}
use Rattle.ap_shared.specs.Entering.{steps_waiting}
use Rattle.ap_shared.specs.Shared.{AreLinesBelow, shared_at}
use Rattle.ap_shared.specs.SharedViews.{shared_terms}
use Rattle.ap_shared.proofs.EnteringLemmas.{Leads, weigh_steps}
use Rattle.ap_shared.proofs.entering.enter.Given as goal

abbrev pub invariant-loop-step : goal.invariant-loop-step
invariant-loop-step l = record {
  below : AreLinesBelow (length (shared_terms l.terms)) (reverse l.lines.items);
  walk : Leads (steps_waiting l.steps.items) (shared_terms l.terms) (map (shared_at (shared_terms l.terms)) (reverse l.lines.items))
      (shared_terms l.fn.terms ++ with_parts (term_of l.term)) (term_of l.term);
}

abbrev pub decreases-loop-step : goal.decreases-loop-step
decreases-loop-step l = weigh_steps (steps_waiting l.steps.items)
