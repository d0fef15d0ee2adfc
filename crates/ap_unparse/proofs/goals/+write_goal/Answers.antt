use Rattle.std.proofs.Common.{◌∙◌, ap}
use Rattle.ap_trees.specs.Trees.{term_of, goal_of_tree}
use Rattle.ap_unparse.proofs.GoalBytes.{both_goes_on, either_goes_on, some_goes_on, new_goes_on, equation_ends, freshness_ends, both_smaller, either_smaller, some_smaller, new_smaller}
use Rattle.ap_unparse.proofs.goals.+write_goal.Goals as goal

pub returns-in-Equal : goal.returns-in-Equal
returns-in-Equal t c =
    equation_ends c.loop-rest.side (goal_of_tree c.loop-rest.rest.now) (term_of c.in-Equal.left) (term_of c.in-Equal.right) c.loop-rest.out.items c.write_relation.new.out.items c.write_closers-in-Equal.new.out.items
    c.loop-rest.closers.items _ (ap goal_of_tree c.in-Equal.is) c.in_ok-write_relation-in-Equal.ensures c.in_ok-write_closers-in-Equal.ensures c.loop-rest.invariant.written

pub returns-in-Fresh : goal.returns-in-Fresh
returns-in-Fresh t c =
    freshness_ends c.loop-rest.side (goal_of_tree c.loop-rest.rest.now) (term_of c.in-Fresh.left) (term_of c.in-Fresh.right) c.loop-rest.out.items c.write_relation-in-Fresh.new.out.items c.write_closers-in-Fresh.new.out.items
    c.loop-rest.closers.items _ (ap goal_of_tree c.in-Fresh.is) c.in_ok-write_relation-in-Fresh.ensures c.in_ok-write_closers-in-Fresh.ensures c.loop-rest.invariant.written

pub loop-rest-preserved-in-Both : goal.loop-rest-preserved-in-Both
loop-rest-preserved-in-Both t c =
    let w = goal_of_tree c.loop-rest.rest.now in
    let left = goal_of_tree c.in-Both.left.value in
    let right = goal_of_tree c.in-Both.right.value in
    record {
      written =
          rw c.deref-rest.ensures
          (both_goes_on c.loop-rest.side w left right c.loop-rest.out.items c.begin_both.new.out.items c.write_goal.new.out.items c.extend_from_slice-in-Both.new.self.items c.loop-rest.closers.items c.begin_both.new.closers.items
          (ap goal_of_tree c.in-Both.is) c.in_ok-begin_both-in-Both.ensures.written c.in_ok-begin_both-in-Both.ensures.kept (rw c.deref.ensures at c.in_ok-write_goal-in-Both.ensures) c.in_ok-extend_from_slice-in-Both.ensures.items
          ∙ c.loop-rest.invariant.written);
      smaller = rw c.deref-rest.ensures ((both_smaller w left right _ (ap goal_of_tree c.in-Both.is) c.loop-rest.invariant.smaller).1);
    }

pub loop-rest-preserved-in-Either : goal.loop-rest-preserved-in-Either
loop-rest-preserved-in-Either t c =
    let w = goal_of_tree c.loop-rest.rest.now in
    let left = goal_of_tree c.in-Either.left.value in
    let right = goal_of_tree c.in-Either.right.value in
    record {
      written =
          rw c.deref-rest-in-Either.ensures
          (either_goes_on c.loop-rest.side w left right c.loop-rest.out.items c.begin_either.new.out.items c.write_goal-in-Either.new.out.items c.extend_from_slice-in-Either.new.self.items c.loop-rest.closers.items
          c.begin_either.new.closers.items (ap goal_of_tree c.in-Either.is) c.in_ok-begin_either-in-Either.ensures.written c.in_ok-begin_either-in-Either.ensures.kept (rw c.deref-in-Either.ensures at c.in_ok-write_goal-in-Either.ensures)
          c.in_ok-extend_from_slice-in-Either.ensures.items
          ∙ c.loop-rest.invariant.written);
      smaller = rw c.deref-rest-in-Either.ensures ((either_smaller w left right _ (ap goal_of_tree c.in-Either.is) c.loop-rest.invariant.smaller).1);
    }

pub loop-rest-preserved-in-Exists : goal.loop-rest-preserved-in-Exists
loop-rest-preserved-in-Exists t c =
    let w = goal_of_tree c.loop-rest.rest.now in
    let inner = goal_of_tree c.in-Exists.inner.value in
    record {
      written =
          rw c.deref-rest-in-Exists.ensures
          (some_goes_on c.loop-rest.side w c.in-Exists.word.now inner c.loop-rest.out.items c.begin_binder.new.out.items c.loop-rest.closers.items c.push.new.self.items
          (ap goal_of_tree c.in-Exists.is) c.in_ok-begin_binder-in-Exists.ensures c.in_ok-push-in-Exists.ensures.items
          ∙ c.loop-rest.invariant.written);
      smaller = rw c.deref-rest-in-Exists.ensures (some_smaller w c.in-Exists.word.now inner _ (ap goal_of_tree c.in-Exists.is) c.loop-rest.invariant.smaller);
    }

pub loop-rest-preserved : goal.loop-rest-preserved
loop-rest-preserved t c =
    let w = goal_of_tree c.loop-rest.rest.now in
    let inner = goal_of_tree c.in-New.inner.value in
    record {
      written =
          rw c.deref-rest-in-New.ensures
          (new_goes_on c.loop-rest.side w c.in-New.word.now inner c.loop-rest.out.items c.begin_binder-in-New.new.out.items c.loop-rest.closers.items c.push-in-New.new.self.items
          (ap goal_of_tree c.in-New.is) c.in_ok-begin_binder-in-New.ensures c.in_ok-push-in-New.ensures.items
          ∙ c.loop-rest.invariant.written);
      smaller = rw c.deref-rest-in-New.ensures (new_smaller w c.in-New.word.now inner _ (ap goal_of_tree c.in-New.is) c.loop-rest.invariant.smaller);
    }
