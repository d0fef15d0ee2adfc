-- The lines so far, and those of the variables that are left, are all.
use Rattle.std.proofs.Common.{◌≡◌, ◌++◌, drop, length, map}
use Rattle.ap_machine.specs.Views.{state_in}
use Rattle.ap_search.specs.Records.{closed_vars}
use Rattle.ap_shared.specs.Shared.{AreLinesBelow, IsGrown, shared_at}
use Rattle.ap_derive.specs.Closing.{IsClosing, closing_terms}
use Rattle.ap_derive.proofs.closing.close_each.Given as goal

abbrev pub invariant-loop-x : goal.invariant-loop-x
invariant-loop-x l = record {
  closing : IsClosing l.store l.closing;
  grown : IsGrown (closing_terms l.fn.closing) (closing_terms l.closing);
  below : AreLinesBelow (length (closing_terms l.closing)) l.lines.items;
  lines : map (shared_at (closing_terms l.closing)) l.lines.items ++ closed_vars (state_in l.store) (drop l.x-index l.vars) ≡ closed_vars (state_in l.store) l.vars;
}
