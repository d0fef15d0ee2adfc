use Rattle.std.proofs.Common.{◌≡◌, [], sym, ap, ◌∙◌, arith}
use Rattle.std.proofs.lemmas.Result.{IfOk-weaker}
use Rattle.ap_defs.specs.Goals.{GoalOver, goal_over, both, either}
use Rattle.ap_defs.specs.RawTerms.{RawTerm, raw_of}
use Rattle.ap_spines.specs.Spines.{raw_goal_within}
use Rattle.ap_trees.specs.Goals as goals
use Rattle.ap_trees.specs.Trees.{goal_of_tree, term_of}
use Rattle.ap_trees.specs.Apart.{goal_together}
use Rattle.ap_scopes.specs.Resolution.{resolved_goal}
use Rattle.ap_scopes.specs.Views.{declared_of, found_of}
use Rattle.ap_scopes.proofs.LayerLemmas.{then_is, goal_goes_in}
use Rattle.ap_scopes.proofs.Orders.{within_is}
use Rattle.ap_scopes.proofs.TreeSizes.{goal_size}
use Rattle.ap_scopes.proofs.owned.own_goal.Goals as goal

pub resolving-preserved-in-Both : goal.resolving-preserved-in-Both
resolving-preserved-in-Both c =
    let d = declared_of c.args.declared.now in
    let first = c.in_ok-left-in-Both.left in
    let layer = c.in_ok-both_layer-in-Both.field-0 in
    let left = goal_of_tree c.in-Both.left in
    let right = goal_of_tree c.in-Both.right in
    let before = found_of c.resolving.found in
    let after = found_of c.own_front.new.found in
    let is : goal_of_tree c.resolving.rest ≡ goals.Both left right = sym c.apart.ensures ∙ ap goal_together c.in-Both.is in
    let part = resolved_goal d [] right after in
    record {
      all = goal_goes_in c.resolving.layers.items c.push.new.self.items layer (resolved_goal d [] (goal_of_tree c.resolving.rest) before) part _ c.in_ok-push-in-Both.ensures.items
          (ap (λ u. resolved_goal d [] u before) is ∙ then_is both (resolved_goal d [] left) (resolved_goal d [] right) before after (goal_over raw_of first) c.in_ok-left-in-Both.ensures.value ∙ ap (λ u. (u, part.1)) (sym (c.in_ok-both_layer-in-Both.ensures part.0))) c.resolving.invariant.all;
      numbered = c.in_ok-left-in-Both.ensures.numbered;
    }

pub resolving-preserved : goal.resolving-preserved
resolving-preserved c =
    let d = declared_of c.args.declared.now in
    let first = c.in_ok-left-in-Either.left in
    let layer = c.in_ok-either_layer-in-Either.field-0 in
    let left = goal_of_tree c.in-Either.left in
    let right = goal_of_tree c.in-Either.right in
    let before = found_of c.resolving.found in
    let after = found_of c.own_front-in-Either.new.found in
    let is : goal_of_tree c.resolving.rest ≡ goals.Either left right = sym c.apart.ensures ∙ ap goal_together c.in-Either.is in
    let part = resolved_goal d [] right after in
    record {
      all = goal_goes_in c.resolving.layers.items c.push-in-Either.new.self.items layer (resolved_goal d [] (goal_of_tree c.resolving.rest) before) part _ c.in_ok-push-in-Either.ensures.items
          (ap (λ u. resolved_goal d [] u before) is ∙ then_is either (resolved_goal d [] left) (resolved_goal d [] right) before after (goal_over raw_of first) c.in_ok-left-in-Either.ensures.value ∙ ap (λ u. (u, part.1)) (sym (c.in_ok-either_layer-in-Either.ensures part.0))) c.resolving.invariant.all;
      numbered = c.in_ok-left-in-Either.ensures.numbered;
    }

pub resolving-smaller-in-Both : goal.resolving-smaller-in-Both
resolving-smaller-in-Both c =
    let whole : goal_of_tree c.resolving.rest ≡ goals.Both (goal_of_tree c.in-Both.left) (goal_of_tree c.in-Both.right) = sym c.apart.ensures ∙ ap goal_together c.in-Both.is in
    let k : goal_size (goal_of_tree c.resolving.rest) ≡ goal_size (goals.Both (goal_of_tree c.in-Both.left) (goal_of_tree c.in-Both.right)) = ap goal_size whole in
    omega (arith, k)

pub resolving-smaller : goal.resolving-smaller
resolving-smaller c =
    let whole : goal_of_tree c.resolving.rest ≡ goals.Either (goal_of_tree c.in-Either.left) (goal_of_tree c.in-Either.right) = sym c.apart.ensures ∙ ap goal_together c.in-Either.is in
    let k : goal_size (goal_of_tree c.resolving.rest) ≡ goal_size (goals.Either (goal_of_tree c.in-Either.left) (goal_of_tree c.in-Either.right)) = ap goal_size whole in
    omega (arith, k)

pub returns-in-Equal-clause-value : goal.returns-in-Equal-clause-value
returns-in-Equal-clause-value c =
    let d = declared_of c.args.declared.now in
    let before = found_of c.resolving.found in
    let after = found_of c.own_sides.new.found in
    let last = goal_over raw_of c.in_ok-last-in-Equal.last in
    let is : goal_of_tree c.resolving.rest ≡ goals.Equation (term_of c.in-Equal.left) (term_of c.in-Equal.right) = sym c.apart.ensures ∙ ap goal_together c.in-Equal.is in
    let part = c.in_ok-last-in-Equal.ensures.value ∙ ap (λ u. resolved_goal d [] u before) (sym is) in
    IfOk-weaker _ _ _ (λ g (e : goal_over raw_of g ≡ raw_goal_within c.resolving.layers.items last). ap (λ (u : GoalOver RawTerm). (u, after)) e ∙ within_is (raw_goal_within c.resolving.layers.items) (last, after) (resolved_goal d [] (goal_of_tree c.resolving.rest) before) _ part c.resolving.invariant.all)
    c.close_goal.ensures

pub returns-in-Equal-clause-numbered : goal.returns-in-Equal-clause-numbered
returns-in-Equal-clause-numbered c = IfOk-weaker _ _ _ (λ g e. c.in_ok-last-in-Equal.ensures.numbered) c.close_goal.ensures

pub returns-in-Whole-clause-value : goal.returns-in-Whole-clause-value
returns-in-Whole-clause-value c =
    let d = declared_of c.args.declared.now in
    let before = found_of c.resolving.found in
    let after = found_of c.own_front-in-Whole.new.found in
    let last = goal_over raw_of c.in_ok-last-in-Whole.last in
    let is : goal_of_tree c.resolving.rest ≡ goal_of_tree c.in-Whole.last = sym c.apart.ensures ∙ ap goal_together c.in-Whole.is in
    let part = c.in_ok-last-in-Whole.ensures.value ∙ ap (λ u. resolved_goal d [] u before) (sym is) in
    IfOk-weaker _ _ _ (λ g (e : goal_over raw_of g ≡ raw_goal_within c.resolving.layers.items last). ap (λ (u : GoalOver RawTerm). (u, after)) e ∙ within_is (raw_goal_within c.resolving.layers.items) (last, after) (resolved_goal d [] (goal_of_tree c.resolving.rest) before) _ part c.resolving.invariant.all)
    c.close_goal-in-Whole.ensures

pub returns-in-Whole-clause-numbered : goal.returns-in-Whole-clause-numbered
returns-in-Whole-clause-numbered c = IfOk-weaker _ _ _ (λ g e. c.in_ok-last-in-Whole.ensures.numbered) c.close_goal-in-Whole.ensures
