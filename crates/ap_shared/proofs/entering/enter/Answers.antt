use Rattle.std.proofs.Common.{◌≡◌, [], ◌∷◌, ◌++◌, ◌∙◌, ap, length, map, sym, subst}
use Rattle.std.specs.Prelude.{reverse}
use Rattle.std.proofs.lemmas.List.{reverse-append}
use Rattle.ap_defs.specs.Terms.{term_of}
use Rattle.ap_bundle.specs.Tables.{with_parts}
use Rattle.ap_shared.specs.Entering.{enter, leave, steps_waiting, walk_step}
use Rattle.ap_shared.specs.Shared.{AreLinesBelow, entry_term, shared_at}
use Rattle.ap_shared.specs.SharedViews.{shared_terms}
use Rattle.ap_shared.proofs.EnteringLemmas.{Leads, entered, left_walk, steps_last}
use Rattle.ap_shared.proofs.entering.enter.Goals as goal

pub loop-step-preserved-in-Continue-branch-2 : goal.loop-step-preserved-in-Continue-branch-2
loop-step-preserved-in-Continue-branch-2 c =
    let u = term_of c.in-Enter.next.now in
    let others = steps_waiting c.pop.new.self.items in
    let table = shared_terms c.loop-step.terms in
    let ts = map (shared_at table) (reverse c.loop-step.lines.items) in
    let end = shared_terms c.args.terms.now ++ with_parts (term_of c.args.term.now) in
    let top : steps_waiting c.loop-step.steps.items ≡ enter u ∷ others =
    ap steps_waiting c.in-Some.ensures.items ∙ steps_last c.pop.new.self.items c.in-Some.step ∙ ap (λ k. walk_step k ∷ others) c.in-Enter.is in
    let leads = subst (λ ks. Leads ks table ts end (term_of c.args.term.now)) top c.loop-step.invariant.walk in
    record {
      below = c.loop-step.invariant.below;
      walk = subst (λ ks. Leads ks table ts end (term_of c.args.term.now)) (sym c.in_ok-push_steps-in-Enter.ensures) (entered u others table ts end (term_of c.args.term.now) leads);
    }

pub loop-step-preserved : goal.loop-step-preserved
loop-step-preserved c =
    let u = term_of c.in-Leave.next.now in
    let others = steps_waiting c.pop.new.self.items in
    let table = shared_terms c.loop-step.terms in
    let new = shared_terms c.add.new.self in
    let ls = reverse c.loop-step.lines.items in
    let end = shared_terms c.args.terms.now ++ with_parts (term_of c.args.term.now) in
    let top : steps_waiting c.loop-step.steps.items ≡ leave u ∷ others =
    ap steps_waiting c.in-Some.ensures.items ∙ steps_last c.pop.new.self.items c.in-Some.step ∙ ap (λ k. walk_step k ∷ others) c.in-Leave.is in
    let leads = subst (λ ks. Leads ks table (map (shared_at table) ls) end (term_of c.args.term.now)) top c.loop-step.invariant.walk in
    let got = rw c.in-Some-2.is at c.in_ok-entry-in-Leave.ensures.value in
    let below : AreLinesBelow (length table) (reverse c.entry_of.new.lines.items) = rw c.in-Some-2.is at c.in_ok-entry-in-Leave.ensures.below in
    let walk = left_walk u others table end (term_of c.args.term.now) ls leads (entry_term table c.in-Some-2.entry) (reverse c.entry_of.new.lines.items) new c.in_ok-line-in-Leave.line got below c.in_ok-line-in-Leave.ensures.terms c.in_ok-line-in-Leave.ensures.line in
    let lines : reverse c.push-in-Leave.new.self.items ≡ c.in_ok-line-in-Leave.line ∷ reverse c.entry_of.new.lines.items =
    ap reverse c.in_ok-push-in-Leave.ensures.items ∙ reverse-append c.entry_of.new.lines.items (c.in_ok-line-in-Leave.line ∷ []) in
    record {
      below = subst (AreLinesBelow (length new)) (sym lines) walk.0;
      walk = subst (λ is. Leads others new (map (shared_at new) is) end (term_of c.args.term.now)) (sym lines) walk.1;
    }
