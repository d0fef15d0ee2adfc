use Rattle.std.proofs.Common.{◌≡◌, ◌≤◌, sym, ap, ◌∙◌, arith}
use Rattle.ap_trees.specs.declared.trees.Tree.{Tree}
use Rattle.ap_trees.specs.declared.trees.Binder.{Binder}
use Rattle.ap_trees.specs.declared.trees.Sides.{Sides}
use Rattle.ap_trees.specs.Terms as terms
use Rattle.ap_trees.specs.Trees.{term_of, name_of_binder}
use Rattle.ap_scopes.specs.Flaws.{least_kind, term_flaw, binder_flaw}
use Rattle.ap_scopes.specs.Views.{declared_of}
use Rattle.ap_scopes.proofs.LeastLemmas.{least_goes_on}
use Rattle.ap_scopes.proofs.TreeSizes.{term_size}
use Rattle.ap_scopes.proofs.flaws.+term_flaws.Goals as goal

pub term_flaw-loop-rest-preserved-in-Pair-1 : goal.term_flaw-loop-rest-preserved-in-Pair-1
term_flaw-loop-rest-preserved-in-Pair-1 t c =
    let d = declared_of c.args.declared.now in
    let left = term_of c.in-Pair.left.value in
    let right = term_of c.deref-rest.result.now in
    let is : term_of c.loop-rest.rest.now ≡ terms.Pair left right = ap term_of c.in-Pair.is ∙ ap (λ (u : Tree). terms.Pair left (term_of u)) (sym c.deref-rest.ensures) in
    record {
      all = least_goes_on c.loop-rest.flaw (term_flaw d left) (term_flaw d right) _ _ _ (c.least-flaw.ensures ∙ ap (least_kind c.loop-rest.flaw) (c.term_flaw.ensures ∙ ap (λ (u : Tree). term_flaw d (term_of u)) c.deref-in-Pair.ensures)) (ap (term_flaw d) is) c.loop-rest.invariant.all;
      smaller = let k : term_size (terms.Pair left right) ≤ term_size (term_of c.args.tree.now) = rw is at c.loop-rest.invariant.smaller in omega arith;
    }

pub term_flaw-loop-rest-preserved-in-Cell-1 : goal.term_flaw-loop-rest-preserved-in-Cell-1
term_flaw-loop-rest-preserved-in-Cell-1 t c =
    let d = declared_of c.args.declared.now in
    let head = term_of c.in-Cell.head.value in
    let tail = term_of c.deref-rest-in-Cell.result.now in
    let is : term_of c.loop-rest.rest.now ≡ terms.Cell head tail = ap term_of c.in-Cell.is ∙ ap (λ (u : Tree). terms.Cell head (term_of u)) (sym c.deref-rest-in-Cell.ensures) in
    record {
      all = least_goes_on c.loop-rest.flaw (term_flaw d head) (term_flaw d tail) _ _ _ (c.least-flaw-in-Cell.ensures ∙ ap (least_kind c.loop-rest.flaw) (c.term_flaw-in-Cell.ensures ∙ ap (λ (u : Tree). term_flaw d (term_of u)) c.deref-in-Cell.ensures)) (ap (term_flaw d) is) c.loop-rest.invariant.all;
      smaller = let k : term_size (terms.Cell head tail) ≤ term_size (term_of c.args.tree.now) = rw is at c.loop-rest.invariant.smaller in omega arith;
    }

pub term_flaw-loop-rest-preserved-in-Abs-1 : goal.term_flaw-loop-rest-preserved-in-Abs-1
term_flaw-loop-rest-preserved-in-Abs-1 t c =
    let d = declared_of c.args.declared.now in
    let name = name_of_binder c.in-Abs.binder.value in
    let body = term_of c.deref-rest-in-Abs.result.now in
    let is : term_of c.loop-rest.rest.now ≡ terms.Abs name body = ap term_of c.in-Abs.is ∙ ap (λ (u : Tree). terms.Abs name (term_of u)) (sym c.deref-rest-in-Abs.ensures) in
    record {
      all = least_goes_on c.loop-rest.flaw (binder_flaw d name) (term_flaw d body) _ _ _ (c.least-flaw-in-Abs.ensures ∙ ap (least_kind c.loop-rest.flaw) (c.binder_flaw.ensures ∙ ap (λ (u : Binder). binder_flaw d (name_of_binder u)) c.deref-in-Abs.ensures)) (ap (term_flaw d) is) c.loop-rest.invariant.all;
      smaller = let k : term_size (terms.Abs name body) ≤ term_size (term_of c.args.tree.now) = rw is at c.loop-rest.invariant.smaller in omega arith;
    }

pub term_flaw-loop-rest-preserved : goal.term_flaw-loop-rest-preserved
term_flaw-loop-rest-preserved t c =
    let d = declared_of c.args.declared.now in
    let left = name_of_binder c.in-Swapped.sides.value.left in
    let right = name_of_binder c.in-Swapped.sides.value.right in
    let body = term_of c.deref-rest-in-Swapped.result.now in
    let is : term_of c.loop-rest.rest.now ≡ terms.Swapped left right body = ap term_of c.in-Swapped.is ∙ ap (λ (u : Tree). terms.Swapped left right (term_of u)) (sym c.deref-rest-in-Swapped.ensures) in
    let first = c.binder_flaw-left.ensures ∙ ap (λ (u : Sides). binder_flaw d (name_of_binder u.left)) c.deref-in-Swapped.ensures in
    let second = c.binder_flaw-right.ensures ∙ ap (λ (u : Sides). binder_flaw d (name_of_binder u.right)) c.deref-in-Swapped-2.ensures in
    let both = c.least-in-Swapped.ensures ∙ (λ j. least_kind (first j) (second j)) in
    record {
      all = least_goes_on c.loop-rest.flaw (least_kind (binder_flaw d left) (binder_flaw d right)) (term_flaw d body) _ _ _ (c.least-flaw-in-Swapped.ensures ∙ ap (least_kind c.loop-rest.flaw) both) (ap (term_flaw d) is) c.loop-rest.invariant.all;
      smaller = let k : term_size (terms.Swapped left right body) ≤ term_size (term_of c.args.tree.now) = rw is at c.loop-rest.invariant.smaller in omega arith;
    }
