-- What is written so far, and what is left, are all.
use Rattle.std.proofs.Common.{drop, map, flat_map}
use Rattle.ap_shared.specs.Shared.{shared_at}
use Rattle.ap_shared.specs.SharedViews.{shared_terms}
use Rattle.ap_bundle_write.specs.Tables.{IsEntering, held_terms}
use Rattle.ap_bundle_write.proofs.WritingLemmas.{Writing}
use Rattle.ap_bundle_write.proofs.derivations.write_terms.Given as goal

abbrev pub invariant-loop-line : goal.invariant-loop-line
invariant-loop-line l = record {
  entering : IsEntering (shared_terms l.terms) l.table;
  text : Writing l.version (held_terms l.fn.table) (held_terms l.table) l.fn.out.items l.out.items (map (shared_at (shared_terms l.terms)) l.lines) (map (shared_at (shared_terms l.terms)) (drop l.line-index l.lines))
      (λ way. flat_map way (map (shared_at (shared_terms l.terms)) l.lines)) (λ way. flat_map way (map (shared_at (shared_terms l.terms)) (drop l.line-index l.lines)));
}
