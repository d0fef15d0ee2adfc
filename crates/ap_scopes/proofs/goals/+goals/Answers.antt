use Rattle.std.proofs.Common.{◌≡◌, ◌≤◌, sym, ap, ◌∙◌, arith}
use Rattle.std.proofs.lemmas.Result.{IfOk-weaker}
use Rattle.ap_defs.specs.Goals.{goal_over, both, either}
use Rattle.ap_defs.specs.RawTerms.{raw_of}
use Rattle.ap_spines.specs.Spines.{raw_goal_within}
use Rattle.ap_trees.specs.declared.trees.GoalTree.{GoalTree}
use Rattle.ap_trees.specs.Goals as goals
use Rattle.ap_trees.specs.Trees.{goal_of_tree}
use Rattle.ap_scopes.specs.Resolution.{resolved_goal}
use Rattle.ap_scopes.specs.Views.{declared_of, scope_of, found_of}
use Rattle.ap_scopes.proofs.LayerLemmas.{then_is, goal_goes_in}
use Rattle.ap_scopes.proofs.Orders.{within_is}
use Rattle.ap_scopes.proofs.TreeSizes.{goal_size}
use Rattle.ap_scopes.proofs.goals.+goals.Goals as goal

pub innermost_goal-loop-rest-preserved-in-Both : goal.innermost_goal-loop-rest-preserved-in-Both
innermost_goal-loop-rest-preserved-in-Both t c =
    let d = declared_of c.args.declared.now in
    let s = scope_of c.args.scope.now in
    let first = c.in_ok-left-in-Both.left in
    let layer = c.in_ok-both_layer-in-Both.field-0 in
    let left = goal_of_tree c.in-Both.left.value in
    let right = goal_of_tree c.deref-rest.result.now in
    let before = found_of c.loop-rest.found in
    let after = found_of c.resolved_goal.new.found in
    let is : goal_of_tree c.loop-rest.rest.now ≡ goals.Both left right = ap goal_of_tree c.in-Both.is ∙ ap (λ (u : GoalTree). goals.Both left (goal_of_tree u)) (sym c.deref-rest.ensures) in
    let value : (goal_over raw_of first, after) ≡ resolved_goal d s left before = c.in_ok-left-in-Both.ensures.value ∙ ap (λ (u : GoalTree). resolved_goal d s (goal_of_tree u) before) c.deref.ensures in
    let part = resolved_goal d s right after in
    record {
      all = goal_goes_in c.loop-rest.layers.items c.push.new.self.items layer (resolved_goal d s (goal_of_tree c.loop-rest.rest.now) before) (resolved_goal d s right after) _ c.in_ok-push-in-Both.ensures.items
          (ap (λ u. resolved_goal d s u before) is ∙ then_is both (resolved_goal d s left) (resolved_goal d s right) before after (goal_over raw_of first) value ∙ ap (λ u. (u, part.1)) (sym (c.in_ok-both_layer-in-Both.ensures part.0))) c.loop-rest.invariant.all;
      numbered = c.in_ok-left-in-Both.ensures.numbered;
      smaller = let k : goal_size (goals.Both left right) ≤ goal_size (goal_of_tree c.args.goal.now) = rw is at c.loop-rest.invariant.smaller in omega arith;
    }

pub innermost_goal-loop-rest-preserved : goal.innermost_goal-loop-rest-preserved
innermost_goal-loop-rest-preserved t c =
    let d = declared_of c.args.declared.now in
    let s = scope_of c.args.scope.now in
    let first = c.in_ok-left-in-Either.left in
    let layer = c.in_ok-either_layer-in-Either.field-0 in
    let left = goal_of_tree c.in-Either.left.value in
    let right = goal_of_tree c.deref-rest-in-Either.result.now in
    let before = found_of c.loop-rest.found in
    let after = found_of c.resolved_goal-in-Either.new.found in
    let is : goal_of_tree c.loop-rest.rest.now ≡ goals.Either left right = ap goal_of_tree c.in-Either.is ∙ ap (λ (u : GoalTree). goals.Either left (goal_of_tree u)) (sym c.deref-rest-in-Either.ensures) in
    let value : (goal_over raw_of first, after) ≡ resolved_goal d s left before = c.in_ok-left-in-Either.ensures.value ∙ ap (λ (u : GoalTree). resolved_goal d s (goal_of_tree u) before) c.deref-in-Either.ensures in
    let part = resolved_goal d s right after in
    record {
      all = goal_goes_in c.loop-rest.layers.items c.push-in-Either.new.self.items layer (resolved_goal d s (goal_of_tree c.loop-rest.rest.now) before) (resolved_goal d s right after) _ c.in_ok-push-in-Either.ensures.items
          (ap (λ u. resolved_goal d s u before) is ∙ then_is either (resolved_goal d s left) (resolved_goal d s right) before after (goal_over raw_of first) value ∙ ap (λ u. (u, part.1)) (sym (c.in_ok-either_layer-in-Either.ensures part.0))) c.loop-rest.invariant.all;
      numbered = c.in_ok-left-in-Either.ensures.numbered;
      smaller = let k : goal_size (goals.Either left right) ≤ goal_size (goal_of_tree c.args.goal.now) = rw is at c.loop-rest.invariant.smaller in omega arith;
    }

pub innermost_goal-returns-in-Equal-clause-value : goal.innermost_goal-returns-in-Equal-clause-value
innermost_goal-returns-in-Equal-clause-value t c =
    let resolved = λ (u : GoalTree). resolved_goal (declared_of c.args.declared.now) (scope_of c.args.scope.now) (goal_of_tree u) (found_of c.loop-rest.found) in
    IfOk-weaker _ _ _ (λ g e. within_is (raw_goal_within c.loop-rest.layers.items) (goal_over raw_of g, found_of c.resolved_equal.new.found) (resolved c.loop-rest.rest.now) _ (e ∙ ap resolved (sym c.in-Equal.is)) c.loop-rest.invariant.all) c.resolved_equal.ensures.value

pub innermost_goal-returns-in-Fresh-clause-value : goal.innermost_goal-returns-in-Fresh-clause-value
innermost_goal-returns-in-Fresh-clause-value t c =
    let resolved = λ (u : GoalTree). resolved_goal (declared_of c.args.declared.now) (scope_of c.args.scope.now) (goal_of_tree u) (found_of c.loop-rest.found) in
    IfOk-weaker _ _ _ (λ g e. within_is (raw_goal_within c.loop-rest.layers.items) (goal_over raw_of g, found_of c.resolved_fresh.new.found) (resolved c.loop-rest.rest.now) _ (e ∙ ap resolved (sym c.in-Fresh.is)) c.loop-rest.invariant.all) c.resolved_fresh.ensures.value

pub innermost_goal-returns-in-Exists-clause-value : goal.innermost_goal-returns-in-Exists-clause-value
innermost_goal-returns-in-Exists-clause-value t c =
    let resolved = λ (u : goals.Goal). resolved_goal (declared_of c.args.declared.now) (scope_of c.args.scope.now) u (found_of c.loop-rest.found) in
    IfOk-weaker _ _ _ (λ g e. within_is (raw_goal_within c.loop-rest.layers.items) (goal_over raw_of g, found_of c.resolved_exists.new.found) (resolved (goal_of_tree c.loop-rest.rest.now)) _ (e ∙ ap (λ (u : GoalTree). resolved (goals.Some_variable c.in-Exists.word.now (goal_of_tree u))) c.deref-in-Exists.ensures ∙ ap (λ (u : GoalTree). resolved (goal_of_tree u)) (sym c.in-Exists.is)) c.loop-rest.invariant.all) c.resolved_exists.ensures.value

pub innermost_goal-returns-in-New-clause-value : goal.innermost_goal-returns-in-New-clause-value
innermost_goal-returns-in-New-clause-value t c =
    let resolved = λ (u : goals.Goal). resolved_goal (declared_of c.args.declared.now) (scope_of c.args.scope.now) u (found_of c.loop-rest.found) in
    IfOk-weaker _ _ _ (λ g e. within_is (raw_goal_within c.loop-rest.layers.items) (goal_over raw_of g, found_of c.resolved_new.new.found) (resolved (goal_of_tree c.loop-rest.rest.now)) _ (e ∙ ap (λ (u : GoalTree). resolved (goals.New_name c.in-New.word.now (goal_of_tree u))) c.deref-in-New.ensures ∙ ap (λ (u : GoalTree). resolved (goal_of_tree u)) (sym c.in-New.is)) c.loop-rest.invariant.all) c.resolved_new.ensures.value
