use Rattle.std.proofs.Common.{◌≡◌, ℕ, ◌∷◌, sym, ap, ◌∙◌, subst}
use Rattle.ap_defs.specs.Goals.{goal_of}
use Rattle.ap_defs.specs.Renaming.{rename_goal}
use Rattle.ap_machine.specs.Machines.{position_of}
use Rattle.ap_machine.specs.Positions.{Position, with_goal}
use Rattle.ap_bundle.specs.Nodes.{left, right}
use Rattle.ap_derive.specs.Solved.{rest_of, solved_at, with_node}
use Rattle.ap_derive.proofs.ChoiceLemmas.{left_selected, right_selected, second_side, side_chooses}
use Rattle.ap_derive.proofs.selecting.select_side.Goals as goal

pub next_choice-requires : goal.next_choice-requires
next_choice-requires c =
    side_chooses c.requires.solved.0 c.args.path.now c.args.frame.depth (rename_goal c.args.frame.base (goal_of c.args.left.now)) (rename_goal c.args.frame.base (goal_of c.args.right.now))
    (position_of c.args.machine.now) c.requires.solved.1

pub returns-in_ok-push_goal : goal.returns-in_ok-push_goal
returns-in_ok-push_goal c =
    let path = c.args.path.now in let d = c.args.frame.depth in let p = position_of c.args.machine.now in
    let g = rename_goal c.args.frame.base (goal_of c.args.left.now) in let h = rename_goal c.args.frame.base (goal_of c.args.right.now) in
    let rest = c.next_choice.ensures.0 in
    let next : rest_of path p ≡ 1 ∷ rest = subst (λ (k : ℕ). rest_of path p ≡ k ∷ rest) c.if-next_choice-eq1.true c.next_choice.ensures.1 in
    λ program.
    left_selected program path d g h p rest next
    ∙ ap (λ (q : Position). with_node left (solved_at program path q)) (sym (c.in_ok-push_goal.ensures.position ∙ ap (with_goal d g) c.in_ok-push_choice.ensures.position))

pub returns-in_ok-push_goal-2 : goal.returns-in_ok-push_goal-2
returns-in_ok-push_goal-2 c =
    let path = c.args.path.now in let d = c.args.frame.depth in let p = position_of c.args.machine.now in
    let g = rename_goal c.args.frame.base (goal_of c.args.left.now) in let h = rename_goal c.args.frame.base (goal_of c.args.right.now) in
    let rest = c.next_choice.ensures.0 in
    let second = second_side c.requires.solved.0 path d g h p c.next_choice.result rest c.if-next_choice-eq1.false c.next_choice.ensures.1 c.requires.solved.1 in
    let next : rest_of path p ≡ 2 ∷ rest = subst (λ (k : ℕ). rest_of path p ≡ k ∷ rest) second c.next_choice.ensures.1 in
    λ program.
    right_selected program path d g h p rest next
    ∙ ap (λ (q : Position). with_node right (solved_at program path q)) (sym (c.in_ok-push_goal-2.ensures.position ∙ ap (with_goal d h) c.in_ok-push_choice-2.ensures.position))
