use Rattle.std.proofs.Common.{◌≡◌, ◌++◌, ◌∙◌, ap, sym}
use Rattle.ap_trees.specs.declared.trees.Sides.{Sides}
use Rattle.ap_trees.specs.Terms.{Apply}
use Rattle.ap_trees.specs.Trees.{name_of_binder, term_applied, term_of, terms_of}
use Rattle.ap_unparse.specs.WrittenTerms.{swap_opening}
use Rattle.ap_unparse.proofs.TermBytes.{pair_goes_on, cell_goes_on, swap_goes_on, apply_ends, left_smaller, head_smaller, swapped_smaller, more_smaller, more_written}
use Rattle.ap_unparse.proofs.terms.+writing.Goals as goal

pub write_arguments-loop-rest-preserved : goal.write_arguments-loop-rest-preserved
write_arguments-loop-rest-preserved t c =
    let ts = terms_of c.loop-rest.rest.now in
    let us = terms_of c.in-More.others.value in
    record {
      written =
          rw c.deref-rest.ensures
          (more_written ts us (term_of c.in-More.t) c.loop-rest.out.items c.write_tree-in-More.new.out.items c.push.new.self.items _ (ap terms_of c.in-More.is) c.in_ok-write_tree-in-More.ensures c.in_ok-push-in-More.ensures.items
          c.loop-rest.invariant.written);
      smaller = rw c.deref-rest.ensures ((more_smaller ts us (term_of c.in-More.t) _ (ap terms_of c.in-More.is) c.loop-rest.invariant.smaller).1);
    }

pub write_tree-returns-in-Apply : goal.write_tree-returns-in-Apply
write_tree-returns-in-Apply t c =
    let w = c.parts_of.result.0.now in
    let args = terms_of c.parts_of.result.1.now in
    let is : term_of c.loop-rest.rest.now ≡ Apply w args = ap term_of c.in-Apply.is ∙ ap term_applied (sym c.deref.ensures) ∙ c.parts_of.ensures in
    apply_ends c.loop-rest.context (term_of c.loop-rest.rest.now) w args c.loop-rest.out.items c.begin_apply.new.out.items c.write_arguments.new.out.items c.push.new.self.items
    c.write_closers-in-Apply.new.out.items c.loop-rest.closers.items _ is c.in_ok-begin_apply-in-Apply.ensures c.in_ok-write_arguments-in-Apply.ensures c.in_ok-push-in-Apply.ensures.items
    c.in_ok-write_closers-in-Apply.ensures c.loop-rest.invariant.written

pub write_tree-loop-rest-preserved-in-Pair-1 : goal.write_tree-loop-rest-preserved-in-Pair-1
write_tree-loop-rest-preserved-in-Pair-1 t c =
    let w = term_of c.loop-rest.rest.now in
    let left = term_of c.in-Pair.left.value in
    let right = term_of c.in-Pair.right.value in
    record {
      written =
          rw c.deref-rest.ensures
          (pair_goes_on c.loop-rest.context w left right c.loop-rest.out.items c.begin_tuple.new.out.items c.write_tree.new.out.items c.push-in-Pair.new.self.items c.loop-rest.closers.items c.begin_tuple.new.closers.items
          (ap term_of c.in-Pair.is) c.in_ok-begin_tuple-in-Pair.ensures.written c.in_ok-begin_tuple-in-Pair.ensures.kept (rw c.deref-in-Pair.ensures at c.in_ok-write_tree-in-Pair.ensures) c.in_ok-push-in-Pair.ensures.items
          ∙ c.loop-rest.invariant.written);
      smaller = rw c.deref-rest.ensures ((left_smaller w left right _ (ap term_of c.in-Pair.is) c.loop-rest.invariant.smaller).1);
    }

pub write_tree-loop-rest-preserved-in-Cell-1 : goal.write_tree-loop-rest-preserved-in-Cell-1
write_tree-loop-rest-preserved-in-Cell-1 t c =
    let w = term_of c.loop-rest.rest.now in
    let head = term_of c.in-Cell.head.value in
    let tail = term_of c.in-Cell.tail.value in
    record {
      written =
          rw c.deref-rest-in-Cell.ensures
          (cell_goes_on c.loop-rest.context w head tail c.loop-rest.out.items c.begin_list.new.out.items c.write_tree-in-Cell.new.out.items c.loop-rest.closers.items c.begin_list.new.closers.items
          (ap term_of c.in-Cell.is) c.in_ok-begin_list-in-Cell.ensures.written c.in_ok-begin_list-in-Cell.ensures.kept (rw c.deref-in-Cell.ensures at c.in_ok-write_tree-in-Cell.ensures)
          ∙ c.loop-rest.invariant.written);
      smaller = rw c.deref-rest-in-Cell.ensures ((head_smaller w head tail _ (ap term_of c.in-Cell.is) c.loop-rest.invariant.smaller).1);
    }

pub write_tree-loop-rest-preserved : goal.write_tree-loop-rest-preserved
write_tree-loop-rest-preserved t c =
    let w = term_of c.loop-rest.rest.now in
    let left = name_of_binder c.in-Swapped.sides.value.left in
    let right = name_of_binder c.in-Swapped.sides.value.right in
    let body = term_of c.in-Swapped.body.value in
    let begun : c.begin_swap.new.out.items ≡ c.loop-rest.out.items ++ swap_opening c.loop-rest.context left right =
    c.in_ok-begin_swap-in-Swapped.ensures ∙ ap (λ (u : Sides). c.loop-rest.out.items ++ swap_opening c.loop-rest.context (name_of_binder u.left) (name_of_binder u.right)) c.deref-in-Swapped.ensures in
    record {
      written =
          rw c.deref-rest-in-Swapped.ensures
          (swap_goes_on c.loop-rest.context w left right body c.loop-rest.out.items c.begin_swap.new.out.items c.loop-rest.closers.items c.push-in-Swapped.new.self.items
          (ap term_of c.in-Swapped.is) begun c.in_ok-push-in-Swapped.ensures.items
          ∙ c.loop-rest.invariant.written);
      smaller = rw c.deref-rest-in-Swapped.ensures (swapped_smaller w left right body _ (ap term_of c.in-Swapped.is) c.loop-rest.invariant.smaller);
    }
