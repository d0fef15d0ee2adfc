use Rattle.std.proofs.Common.{◌≡◌, ◌≤◌, sym, ap, ◌∙◌, arith}
use Rattle.std.proofs.lemmas.Result.{IfOk-weaker}
use Rattle.ap_defs.specs.RawTerms.{raw_of, pair, app, abs}
use Rattle.ap_spines.specs.Spines.{raw_within}
use Rattle.ap_spines.specs.declared.RawLayer.TheVariants as around
use Rattle.ap_trees.specs.declared.trees.Tree.{Tree}
use Rattle.ap_trees.specs.declared.trees.Binder.{Binder}
use Rattle.ap_trees.specs.declared.trees.Args.{Args}
use Rattle.ap_trees.specs.declared.trees.Sides.{Sides}
use Rattle.ap_trees.specs.Terms as terms
use Rattle.ap_trees.specs.Trees.{term_of, terms_of, name_of_binder}
use Rattle.ap_scopes.specs.Resolution.{made, binder, resolved_term, resolved_arguments, raw_swapped_by, two_ids, in_order}
use Rattle.ap_scopes.specs.Views.{declared_of, scope_of, found_of}
use Rattle.ap_scopes.proofs.LayerLemmas.{then_is, raw_goes_in}
use Rattle.ap_scopes.proofs.TreeSizes.{term_size, terms_size}
use Rattle.ap_scopes.proofs.Orders.{in_order_is, within_is}
use Rattle.ap_scopes.proofs.terms.+terms.Goals as goal

pub resolved_tuple-loop-rest-preserved : goal.resolved_tuple-loop-rest-preserved
resolved_tuple-loop-rest-preserved t c =
    let d = declared_of c.args.declared.now in
    let s = scope_of c.args.scope.now in
    let first = c.in_ok-resolved_term-in-More.field-0 in
    let more = terms_of c.deref-rest.result.now in
    let before = found_of c.loop-rest.found in
    let after = found_of c.resolved_term-in-More.new.found in
    let is : terms_of c.loop-rest.rest.now ≡ terms.More (term_of c.in-More.first) more = ap terms_of c.in-More.is ∙ ap (λ (u : Args). terms.More (term_of c.in-More.first) (terms_of u)) (sym c.deref-rest.ensures) in
    record {
      all = raw_goes_in c.loop-rest.layers.items c.push.new.self.items (around.Left first) (resolved_arguments d s (terms_of c.loop-rest.rest.now) before) (resolved_arguments d s more after) _ c.in_ok-push-in-More.ensures.items
          (ap (λ u. resolved_arguments d s u before) is ∙ then_is pair (resolved_term d s (term_of c.in-More.first)) (resolved_arguments d s more) before after (raw_of first) c.in_ok-resolved_term-in-More.ensures.value)
          c.loop-rest.invariant.all;
      numbered = c.in_ok-resolved_term-in-More.ensures.numbered;
      smaller = let k : terms_size (terms.More (term_of c.in-More.first) more) ≤ terms_size (terms_of c.args.args.now) = rw is at c.loop-rest.invariant.smaller in omega arith;
    }

pub innermost_term-loop-rest-preserved-in-Pair : goal.innermost_term-loop-rest-preserved-in-Pair
innermost_term-loop-rest-preserved-in-Pair t c =
    let d = declared_of c.args.declared.now in
    let s = scope_of c.args.scope.now in
    let first = c.in_ok-resolved_term-in-Pair.field-0 in
    let left = term_of c.in-Pair.left.value in
    let right = term_of c.deref-rest.result.now in
    let before = found_of c.loop-rest.found in
    let after = found_of c.resolved_term.new.found in
    let is : term_of c.loop-rest.rest.now ≡ terms.Pair left right = ap term_of c.in-Pair.is ∙ ap (λ (u : Tree). terms.Pair left (term_of u)) (sym c.deref-rest.ensures) in
    let value : (raw_of first, after) ≡ resolved_term d s left before = c.in_ok-resolved_term-in-Pair.ensures.value ∙ ap (λ (u : Tree). resolved_term d s (term_of u) before) c.deref-in-Pair.ensures in
    record {
      all = raw_goes_in c.loop-rest.layers.items c.push.new.self.items (around.Left first) (resolved_term d s (term_of c.loop-rest.rest.now) before) (resolved_term d s right after) _ c.in_ok-push-in-Pair.ensures.items
          (ap (λ u. resolved_term d s u before) is ∙ then_is pair (resolved_term d s left) (resolved_term d s right) before after (raw_of first) value) c.loop-rest.invariant.all;
      numbered = c.in_ok-resolved_term-in-Pair.ensures.numbered;
      smaller = let k : term_size (terms.Pair left right) ≤ term_size (term_of c.args.tree.now) = rw is at c.loop-rest.invariant.smaller in omega arith;
    }

pub innermost_term-loop-rest-preserved-in-Cell : goal.innermost_term-loop-rest-preserved-in-Cell
innermost_term-loop-rest-preserved-in-Cell t c =
    let d = declared_of c.args.declared.now in
    let s = scope_of c.args.scope.now in
    let first = c.in_ok-resolved_term-in-Cell.field-0 in
    let head = term_of c.in-Cell.head.value in
    let tail = term_of c.deref-rest-in-Cell.result.now in
    let before = found_of c.loop-rest.found in
    let after = found_of c.resolved_term-in-Cell.new.found in
    let is : term_of c.loop-rest.rest.now ≡ terms.Cell head tail = ap term_of c.in-Cell.is ∙ ap (λ (u : Tree). terms.Cell head (term_of u)) (sym c.deref-rest-in-Cell.ensures) in
    let value : (raw_of first, after) ≡ resolved_term d s head before = c.in_ok-resolved_term-in-Cell.ensures.value ∙ ap (λ (u : Tree). resolved_term d s (term_of u) before) c.deref-in-Cell.ensures in
    record {
      all = raw_goes_in c.loop-rest.layers.items c.push-in-Cell.new.self.items (around.Cell first) (resolved_term d s (term_of c.loop-rest.rest.now) before) (resolved_term d s tail after) _ c.in_ok-push-in-Cell.ensures.items
          (ap (λ u. resolved_term d s u before) is ∙ ap (made (app 1)) (then_is pair (resolved_term d s head) (resolved_term d s tail) before after (raw_of first) value)) c.loop-rest.invariant.all;
      numbered = c.in_ok-resolved_term-in-Cell.ensures.numbered;
      smaller = let k : term_size (terms.Cell head tail) ≤ term_size (term_of c.args.tree.now) = rw is at c.loop-rest.invariant.smaller in omega arith;
    }

pub innermost_term-loop-rest-preserved-in-Abs : goal.innermost_term-loop-rest-preserved-in-Abs
innermost_term-loop-rest-preserved-in-Abs t c =
    let d = declared_of c.args.declared.now in
    let s = scope_of c.args.scope.now in
    let id = c.in_ok-binder-in-Abs.field-0 in
    let spelling = name_of_binder c.in-Abs.spelling.value in
    let body = term_of c.deref-rest-in-Abs.result.now in
    let before = found_of c.loop-rest.found in
    let after = found_of c.binder.new.found in
    let is : term_of c.loop-rest.rest.now ≡ terms.Abs spelling body = ap term_of c.in-Abs.is ∙ ap (λ (u : Tree). terms.Abs spelling (term_of u)) (sym c.deref-rest-in-Abs.ensures) in
    let binds : (id, after) ≡ binder s spelling before = c.in_ok-binder-in-Abs.ensures.value ∙ ap (λ (u : Binder). binder s (name_of_binder u) before) c.deref-in-Abs.ensures in
    record {
      all = raw_goes_in c.loop-rest.layers.items c.push-in-Abs.new.self.items (around.Abs id) (resolved_term d s (term_of c.loop-rest.rest.now) before) (resolved_term d s body after) _ c.in_ok-push-in-Abs.ensures.items
          (ap (λ u. resolved_term d s u before) is ∙ then_is abs (binder s spelling) (resolved_term d s body) before after id binds) c.loop-rest.invariant.all;
      numbered = c.in_ok-binder-in-Abs.ensures.numbered;
      smaller = let k : term_size (terms.Abs spelling body) ≤ term_size (term_of c.args.tree.now) = rw is at c.loop-rest.invariant.smaller in omega arith;
    }

pub innermost_term-loop-rest-preserved : goal.innermost_term-loop-rest-preserved
innermost_term-loop-rest-preserved t c =
    let d = declared_of c.args.declared.now in
    let s = scope_of c.args.scope.now in
    let i = c.in_ok-left-in-Swapped.left in
    let j = c.in_ok-right-in-Swapped.right in
    let left = name_of_binder c.in-Swapped.sides.value.left in
    let right = name_of_binder c.in-Swapped.sides.value.right in
    let body = term_of c.deref-rest-in-Swapped.result.now in
    let before = found_of c.loop-rest.found in
    let between = found_of c.binder-in-Swapped.new.found in
    let after = found_of c.binder-in-Swapped-2.new.found in
    let is : term_of c.loop-rest.rest.now ≡ terms.Swapped left right body = ap term_of c.in-Swapped.is ∙ ap (λ (u : Tree). terms.Swapped left right (term_of u)) (sym c.deref-rest-in-Swapped.ensures) in
    let first : (i, between) ≡ binder s left before = c.in_ok-left-in-Swapped.ensures.value ∙ ap (λ (u : Sides). binder s (name_of_binder u.left) before) c.deref-in-Swapped.ensures in
    let second : (j, after) ≡ binder s right between = c.in_ok-right-in-Swapped.ensures.value ∙ ap (λ (u : Sides). binder s (name_of_binder u.right) between) c.deref-in-Swapped-2.ensures in
    let ends = in_order_is two_ids (binder s left) (binder s right) before between after i j first second in
    let layer = c.in_ok-swapping_layer-in-Swapped.field-0 in
    let part = resolved_term d s body after in
    record {
      all = raw_goes_in c.loop-rest.layers.items c.push-in-Swapped.new.self.items layer (resolved_term d s (term_of c.loop-rest.rest.now) before) (resolved_term d s body after) _ c.in_ok-push-in-Swapped.ensures.items
          (ap (λ u. resolved_term d s u before) is ∙ then_is raw_swapped_by (in_order two_ids (binder s left) (binder s right)) (resolved_term d s body) before after (i, j) ends ∙ ap (λ u. (u, part.1)) (sym (c.in_ok-swapping_layer-in-Swapped.ensures part.0))) c.loop-rest.invariant.all;
      numbered = c.in_ok-right-in-Swapped.ensures.numbered;
      smaller = let k : term_size (terms.Swapped left right body) ≤ term_size (term_of c.args.tree.now) = rw is at c.loop-rest.invariant.smaller in omega arith;
    }

pub innermost_term-returns-in-Var-clause-value : goal.innermost_term-returns-in-Var-clause-value
innermost_term-returns-in-Var-clause-value t c =
    let resolved = λ (u : Tree). resolved_term (declared_of c.args.declared.now) (scope_of c.args.scope.now) (term_of u) (found_of c.loop-rest.found) in
    IfOk-weaker _ _ _ (λ r e. within_is (raw_within c.loop-rest.layers.items) (raw_of r, found_of c.identifier.new.found) (resolved c.loop-rest.rest.now) _ (e ∙ ap resolved (sym c.in-Var.is)) c.loop-rest.invariant.all) c.identifier.ensures.value

pub innermost_term-returns-in-Word-clause-value : goal.innermost_term-returns-in-Word-clause-value
innermost_term-returns-in-Word-clause-value t c =
    let resolved = λ (u : Tree). resolved_term (declared_of c.args.declared.now) (scope_of c.args.scope.now) (term_of u) (found_of c.loop-rest.found) in
    IfOk-weaker _ _ _ (λ r e. within_is (raw_within c.loop-rest.layers.items) (raw_of r, found_of c.word_alone.new.found) (resolved c.loop-rest.rest.now) _ (e ∙ ap resolved (sym c.in-Word.is)) c.loop-rest.invariant.all) c.word_alone.ensures.value
