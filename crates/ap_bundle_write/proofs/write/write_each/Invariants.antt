-- What is written so far, and what is left, are all.
use Rattle.std.proofs.Common.{drop, map, flat_map}
use Rattle.ap_shared.specs.SharedViews.{shared_proved}
use Rattle.ap_bundle.specs.Tables.{terms_of}
use Rattle.ap_bundle.specs.Written.{proved_lines}
use Rattle.ap_bundle_write.specs.Tables.{IsWrittenTable, held_terms}
use Rattle.ap_bundle_write.proofs.WritingLemmas.{Writing}
use Rattle.ap_bundle_write.proofs.write.write_each.Given as goal

abbrev pub invariant-loop-proved : goal.invariant-loop-proved
invariant-loop-proved l = record {
  table : IsWrittenTable l.table;
  text : Writing l.version (held_terms l.fn.table) (held_terms l.table) l.fn.out.items l.out.items (flat_map terms_of (map shared_proved l.all)) (flat_map terms_of (map shared_proved (drop l.proved-index l.all)))
      (λ way. flat_map (proved_lines way) (map shared_proved l.all)) (λ way. flat_map (proved_lines way) (map shared_proved (drop l.proved-index l.all)));
}
