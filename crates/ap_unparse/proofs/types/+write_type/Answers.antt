use Rattle.std.proofs.Common.{◌∙◌, ap}
use Rattle.ap_trees.specs.Trees.{type_of_tree}
use Rattle.ap_unparse.proofs.TypeBytes.{pair_goes_on, array_goes_on, left_smaller, element_smaller}
use Rattle.ap_unparse.proofs.types.+write_type.Goals as goal

pub loop-rest-preserved-in-Pair : goal.loop-rest-preserved-in-Pair
loop-rest-preserved-in-Pair t c =
    let w = type_of_tree c.loop-rest.rest.now in
    let left = type_of_tree c.in-Pair.left.value in
    let right = type_of_tree c.in-Pair.right.value in
    record {
      written =
          rw c.deref-rest.ensures
          (pair_goes_on c.loop-rest.part w left right c.loop-rest.out.items c.begin_tuple.new.out.items c.write_type.new.out.items c.extend_from_slice-in-Pair.new.self.items c.loop-rest.closers.items c.begin_tuple.new.closers.items
          (ap type_of_tree c.in-Pair.is) c.in_ok-begin_tuple-in-Pair.ensures.written c.in_ok-begin_tuple-in-Pair.ensures.kept (rw c.deref.ensures at c.in_ok-write_type-in-Pair.ensures) c.in_ok-extend_from_slice-in-Pair.ensures.items
          ∙ c.loop-rest.invariant.written);
      smaller = rw c.deref-rest.ensures ((left_smaller w left right _ (ap type_of_tree c.in-Pair.is) c.loop-rest.invariant.smaller).1);
    }

pub loop-rest-preserved-in-List : goal.loop-rest-preserved-in-List
loop-rest-preserved-in-List t c =
    let w = type_of_tree c.loop-rest.rest.now in
    let element = type_of_tree c.in-List.element.value in
    record {
      written =
          rw c.deref-rest-in-List.ensures
          (array_goes_on c.loop-rest.part w element c.loop-rest.out.items c.push.new.self.items c.loop-rest.closers.items c.push-in-List.new.self.items
          (ap type_of_tree c.in-List.is) c.in_ok-push-in-List.ensures.items c.in_ok-push-in-List-2.ensures.items
          ∙ c.loop-rest.invariant.written);
      smaller = rw c.deref-rest-in-List.ensures (element_smaller w element _ (ap type_of_tree c.in-List.is) c.loop-rest.invariant.smaller);
    }
