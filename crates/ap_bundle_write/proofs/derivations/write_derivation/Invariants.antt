-- What is written so far, and the derivations that are left, are all.
use Rattle.std.proofs.Common.{length}
use Rattle.ap_defs.specs.Derivations.{terms_in}
use Rattle.ap_shared.specs.SharedViews.{shared_derivation, shared_terms}
use Rattle.ap_bundle.specs.Nodes.{preorder}
use Rattle.ap_bundle_write.specs.Tables.{IsEntering, held_terms}
use Rattle.ap_bundle_write.proofs.Stacks.{later, seen}
use Rattle.ap_bundle_write.proofs.NodeTexts.{node_texts}
use Rattle.ap_bundle_write.proofs.WritingLemmas.{Writing}
use Rattle.ap_bundle_write.proofs.derivations.write_derivation.Given as goal

abbrev pub invariant-loop-next : goal.invariant-loop-next
invariant-loop-next l = record {
  entering : IsEntering (shared_terms l.terms) l.table;
  text : Writing l.version (held_terms l.fn.table) (held_terms l.table) l.fn.out.items l.out.items (terms_in ((shared_derivation (shared_terms l.terms)) l.derivation)) (later terms_in (seen (shared_derivation (shared_terms l.terms)) l.pending.items))
      (λ way. node_texts way ((shared_derivation (shared_terms l.terms)) l.derivation)) (λ way. later (node_texts way) (seen (shared_derivation (shared_terms l.terms)) l.pending.items));
}

abbrev pub decreases-loop-next : goal.decreases-loop-next
decreases-loop-next l = length (later preorder (seen (shared_derivation (shared_terms l.terms)) l.pending.items))
