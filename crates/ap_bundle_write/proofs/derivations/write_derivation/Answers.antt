use Rattle.std.proofs.Common.{◌≡◌, [], ◌∷◌, ◌∙◌, ap, arith}
use Rattle.std.proofs.lemmas.Grind.{common_steps}
use Rattle.std.proofs.lemmas.List.{map-append}
use Rattle.ap_defs.specs.Derivations.{terms_in}
use Rattle.ap_shared.specs.SharedViews.{shared_derivation, shared_terms}
use Rattle.ap_bundle.specs.Written.{node_lines}
use Rattle.ap_shared.specs.FirstNodes.{first_node, node_terms}
use Rattle.ap_bundle_write.proofs.Stacks.{later, seen}
use Rattle.ap_bundle_write.proofs.NodeTexts.{node_texts, first_texts, first_terms, stack_on, stack_less}
use Rattle.ap_bundle_write.proofs.WritingLemmas.{writing_on, writing_ends}
use Rattle.ap_bundle_write.proofs.derivations.write_derivation.Goals as goal

pub loop-next-preserved : goal.loop-next-preserved
loop-next-preserved c =
    let d = (shared_derivation (shared_terms c.args.terms.now)) c.in-Some.next.now in
    let part = seen (shared_derivation (shared_terms c.args.terms.now)) c.pop.new.self.items in
    let top = ap (seen (shared_derivation (shared_terms c.args.terms.now))) c.in-Some.ensures.items ∙ map-append (λ r. (shared_derivation (shared_terms c.args.terms.now)) r.now) c.pop.new.self.items (c.in-Some.next ∷ []) in
    let left = c.in_ok-push_children.ensures (shared_terms c.args.terms.now) in
    record {
      entering = c.in_ok-write_first.ensures.entering;
      text = writing_on c.args.version _ _ _ _ _ _ _ (later terms_in (seen (shared_derivation (shared_terms c.args.terms.now)) c.loop-next.pending.items)) (later terms_in (seen (shared_derivation (shared_terms c.args.terms.now)) c.push_children.new.pending.items)) (node_terms (first_node d))
          (λ way. node_texts way ((shared_derivation (shared_terms c.args.terms.now)) c.args.derivation.now)) (λ way. later (node_texts way) (seen (shared_derivation (shared_terms c.args.terms.now)) c.loop-next.pending.items)) (λ way. later (node_texts way) (seen (shared_derivation (shared_terms c.args.terms.now)) c.push_children.new.pending.items)) (λ way. node_lines way (first_node d))
          (stack_on terms_in _ part _ d (node_terms (first_node d)) (first_terms d) top left)
          (λ way. stack_on (node_texts way) _ part _ d (node_lines way (first_node d)) (first_texts way d) top left)
          c.in_ok-write_first.ensures.text c.loop-next.invariant.text;
    }

pub loop-next-smaller : goal.loop-next-smaller
loop-next-smaller c =
    let top = ap (seen (shared_derivation (shared_terms c.args.terms.now))) c.in-Some.ensures.items ∙ map-append (λ r. (shared_derivation (shared_terms c.args.terms.now)) r.now) c.pop.new.self.items (c.in-Some.next ∷ []) in
    stack_less _ (seen (shared_derivation (shared_terms c.args.terms.now)) c.pop.new.self.items) _ ((shared_derivation (shared_terms c.args.terms.now)) c.in-Some.next.now) top (c.in_ok-push_children.ensures (shared_terms c.args.terms.now))

pub returns-clause-text : goal.returns-clause-text
returns-clause-text c =
    let none : c.loop-next.pending.items ≡ [] = grind (arith, common_steps) in
    writing_ends c.args.version _ _ _ _ _ (later terms_in (seen (shared_derivation (shared_terms c.args.terms.now)) c.loop-next.pending.items)) (λ way. node_texts way ((shared_derivation (shared_terms c.args.terms.now)) c.args.derivation.now)) (λ way. later (node_texts way) (seen (shared_derivation (shared_terms c.args.terms.now)) c.loop-next.pending.items))
    (ap (λ z. later terms_in (seen (shared_derivation (shared_terms c.args.terms.now)) z)) none) (λ way. ap (λ z. later (node_texts way) (seen (shared_derivation (shared_terms c.args.terms.now)) z)) none) c.loop-next.invariant.text
