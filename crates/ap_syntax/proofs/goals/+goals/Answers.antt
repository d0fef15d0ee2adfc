use Rattle.std.proofs.Common.{◌≡◌, ◌+◌, ◌++◌, ◌∷◌, [], Some, vec_len, arith, sym, ◌∙◌, ap}
use Rattle.std.proofs.lemmas.List.{map-append, length-map}
use Rattle.std.proofs.lemmas.Result.{err_from_is_err_and}
use Rattle.ap_trees.specs.Symbols.{syms, sym as symbol}
use Rattle.ap_trees.specs.Trees.{goal_of_tree, goals_of}
use Rattle.ap_trees.proofs.Lists.{separated_first, further_on, further_fails, fails_on, gives_as}
use Rattle.ap_syntax.specs.GoalReader.{read_goal}
use Rattle.ap_syntax.specs.Joins.{after_mark, read_part}
use Rattle.ap_syntax.proofs.Joins.{rank_of, joined_alone, joined_fails, no_parts, no_whole, joined_whole}
use Rattle.ap_syntax.proofs.GoalLaws.{part_shorter}
use Rattle.ap_syntax.proofs.GoalSteps as steps
use Rattle.ap_syntax.proofs.goals.+goals.Goals as goal

pub joined_goals-returns-in_err-first : goal.joined_goals-returns-in_err-first
joined_goals-returns-in_err-first t c =
    let p = err_from_is_err_and c.from_residual.result c.from_residual.ensures.1 in
    rw (p.1, p.2) (fails_on c.in_err-first.field-0.0 _ _ (joined_fails c.args.join (read_goal c.args.levels) (syms c.args.symbols.now)) c.in_err-first.ensures)

pub joined_goals-returns-in-Some : goal.joined_goals-returns-in-Some
joined_goals-returns-in-Some t c = c.longer_goal.ensures

pub joined_goals-returns-in-None : goal.joined_goals-returns-in-None
joined_goals-returns-in-None t c =
    let shorter = part_shorter c.args.join c.args.levels c.args.symbols.now _ _ c.in_ok-first.ensures in
    joined_alone c.args.join (read_goal c.args.levels) _ _ _ (omega (arith, shorter, length-map c.args.symbols.now symbol)) c.in_ok-first.ensures (sym c.in-None.ensures.value)

pub part-joined_goals-requires : goal.part-joined_goals-requires
part-joined_goals-requires t c =
    let falls = c.decreases in
    let either : rank_of c.args.join ≡ 4 = ap rank_of c.in-Either.is in
    (omega (arith, falls, either), tt)

pub longer_goal-returns-in_err-parts : goal.longer_goal-returns-in_err-parts
longer_goal-returns-in_err-parts t c =
    let p = err_from_is_err_and c.from_residual.result c.from_residual.ensures.1 in
    rw (p.1, p.2) (fails_on c.in_err-parts.field-0.0 _ _ (no_parts c.args.join (read_goal c.args.levels) c.args.symbols.now) c.in_err-parts.ensures)

pub longer_goal-returns-in_err-whole : goal.longer_goal-returns-in_err-whole
longer_goal-returns-in_err-whole t c =
    let p = err_from_is_err_and c.from_residual-in_err-whole.result c.from_residual-in_err-whole.ensures.1 in
    rw (p.1, p.2) (fails_on c.in_err-whole.field-0.0 _ _ (no_whole c.args.join (read_goal c.args.levels) c.args.symbols.now _ _ c.in_ok-parts.ensures) c.in_err-whole.ensures)

pub longer_goal-returns : goal.longer_goal-returns
longer_goal-returns t c = joined_whole c.args.join (read_goal c.args.levels) c.args.symbols.now _ _ _ c.in_ok-parts.ensures c.in_ok-whole.ensures

pub further_parts-loop-after-init : goal.further_parts-loop-after-init
further_parts-loop-after-init t c =
    let all = c.in_ok-all.all in
    let items : goals_of all.items ≡ goal_of_tree c.args.first ∷ [] = ap goals_of c.in_ok-all.ensures.first in
    let one : vec_len all ≡ 1 = c.in_ok-all.ensures.one in
    let behind = c.in_ok-all.ensures.behind in
    let shorter = part_shorter c.args.join c.args.levels c.args.symbols.now c.args.after.now _ c.requires in
    record {
      read = rw (items, behind) (separated_first (after_mark c.args.join) (read_part c.args.join (read_goal c.args.levels)) _ _ _ _ _ (omega arith) c.requires);
      enough = rw behind (omega arith);
      some = rw behind shorter;
    }

pub further_parts-returns-in_err-next : goal.further_parts-returns-in_err-next
further_parts-returns-in_err-next t c =
    let p = err_from_is_err_and c.from_residual-in_err-next.result c.from_residual-in_err-next.ensures.1 in
    let mark : after_mark c.args.join (syms c.loop-after.rest.now) ≡ Some (syms c.in-Some.after.now) = sym c.in-Some.ensures.value in
    rw (p.1, p.2) (fails_on c.in_err-next.field-0.0 _ _ (λ none. sym c.loop-after.invariant.read ∙ further_fails (after_mark c.args.join) (read_part c.args.join (read_goal c.args.levels)) _ _ _ _ mark none) c.in_err-next.ensures)

pub further_parts-loop-after-smaller : goal.further_parts-loop-after-smaller
further_parts-loop-after-smaller t c =
    let first = c.in-Some.ensures.shorter in
    let second = part_shorter c.args.join c.args.levels _ _ _ c.in_ok-next.ensures in
    omega arith

pub further_parts-loop-after-preserved : goal.further_parts-loop-after-preserved
further_parts-loop-after-preserved t c =
    let items : goals_of c.push.new.self.items ≡ goals_of c.loop-after.all.items ++ goal_of_tree c.in_ok-next.next ∷ [] =
    ap goals_of c.in_ok-push.ensures.items ∙ map-append goal_of_tree c.loop-after.all.items (c.in_ok-next.next ∷ []) in
    let mark : after_mark c.args.join (syms c.loop-after.rest.now) ≡ Some (syms c.in-Some.after.now) = sym c.in-Some.ensures.value in
    let more : vec_len c.push.new.self ≡ vec_len c.loop-after.all + 1 = c.in_ok-push.ensures.len in
    let first = c.in-Some.ensures.shorter in
    let second = part_shorter c.args.join c.args.levels _ _ _ c.in_ok-next.ensures in
    record {
      read = rw items (further_on (after_mark c.args.join) (read_part c.args.join (read_goal c.args.levels)) _ _ _ _ _ _ _ (omega arith) mark c.in_ok-next.ensures ∙ c.loop-after.invariant.read);
      enough = omega arith;
      some = omega arith;
    }

pub simple-returns-in-Some : goal.simple-returns-in-Some
simple-returns-in-Some t c = gives_as _ c.new_goal.result _ _ c.new_goal.ensures (steps.simple_new (read_goal c.args.levels) _ _ (sym c.in-Some.ensures.value))

pub simple-returns-in-Some-after_exists : goal.simple-returns-in-Some-after_exists
simple-returns-in-Some-after_exists t c =
    gives_as _ c.exists_goal.result _ _ c.exists_goal.ensures (steps.simple_exists (read_goal c.args.levels) _ _ (sym c.in-None.ensures.value) (sym c.in-Some-after_exists.ensures.value))

pub simple-returns-in-Some-after_group : goal.simple-returns-in-Some-after_group
simple-returns-in-Some-after_group t c =
    gives_as _ c.goal_inside.result _ _ c.goal_inside.ensures
    (steps.simple_inside (read_goal c.args.levels) _ _ (sym c.in-None.ensures.value) (sym c.in-None-after_exists.ensures.value) (sym c.in-Some-after_group.ensures.value))

pub simple-returns-in-None-after_group : goal.simple-returns-in-None-after_group
simple-returns-in-None-after_group t c =
    gives_as _ c.flat.result _ _ c.flat.ensures
    (steps.simple_flat (read_goal c.args.levels) _ (sym c.in-None.ensures.value) (sym c.in-None-after_exists.ensures.value) (sym c.in-None-after_group.ensures.value))

pub new_goal-returns-in_err-goal : goal.new_goal-returns-in_err-goal
new_goal-returns-in_err-goal t c =
    let p = err_from_is_err_and c.from_residual.result c.from_residual.ensures.1 in
    rw (p.1, p.2) (fails_on c.in_err-goal.field-0.0 _ _ (steps.new_fails (read_goal c.args.levels) (syms c.args.symbols.now) _ _ (sym c.in-Some.ensures)) c.in_err-goal.ensures)

pub new_goal-returns : goal.new_goal-returns
new_goal-returns t c = rw c.in_ok-new.ensures.ok (steps.new_gives (read_goal c.args.levels) (syms c.args.symbols.now) _ _ _ _ (sym c.in-Some.ensures) c.in_ok-goal.ensures)

pub exists_goal-returns-in_err-goal : goal.exists_goal-returns-in_err-goal
exists_goal-returns-in_err-goal t c =
    let p = err_from_is_err_and c.from_residual.result c.from_residual.ensures.1 in
    rw (p.1, p.2) (fails_on c.in_err-goal.field-0.0 _ _ (steps.exists_fails (read_goal c.args.levels) (syms c.args.symbols.now) _ _ (sym c.in-Some.ensures)) c.in_err-goal.ensures)

pub exists_goal-returns : goal.exists_goal-returns
exists_goal-returns t c = rw c.in_ok-new.ensures.ok (steps.exists_gives (read_goal c.args.levels) (syms c.args.symbols.now) _ _ _ _ (sym c.in-Some.ensures) c.in_ok-goal.ensures)

pub goal_inside-returns-in_err-goal : goal.goal_inside-returns-in_err-goal
goal_inside-returns-in_err-goal t c =
    let p = err_from_is_err_and c.from_residual.result c.from_residual.ensures.1 in
    rw (p.1, p.2) (fails_on c.in_err-goal.field-0.0 _ _ (steps.inside_fails (read_goal c.args.levels) (syms c.args.symbols.now)) c.in_err-goal.ensures)
