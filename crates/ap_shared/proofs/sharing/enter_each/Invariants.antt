-- The lines so far stand for terms, and those that are left are the others.
use Rattle.std.proofs.Common.{◌≡◌, ◌++◌, drop, length, map}
use Rattle.ap_defs.specs.Terms.{term_of}
use Rattle.ap_shared.specs.Shared.{AreLinesBelow, IsGrown, shared_at}
use Rattle.ap_shared.specs.SharedViews.{shared_terms}
use Rattle.ap_shared.proofs.sharing.enter_each.Given as goal

abbrev pub invariant-loop-term : goal.invariant-loop-term
invariant-loop-term l = record {
  grown : IsGrown (shared_terms l.fn.table) (shared_terms l.table);
  below : AreLinesBelow (length (shared_terms l.table)) l.lines.items;
  lines : map (shared_at (shared_terms l.table)) l.lines.items ++ map term_of (drop l.term-index l.terms) ≡ map term_of l.terms;
}
