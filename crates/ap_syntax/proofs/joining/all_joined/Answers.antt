use Rattle.std.proofs.Common.{◌≡◌, ◌++◌, ◌∷◌, [], sym, ◌∙◌, ap, append_assoc}
use Rattle.std.proofs.lemmas.List.{map-append}
use Rattle.ap_trees.specs.Trees.{goal_of_tree, goals_of}
use Rattle.ap_syntax.specs.GoalReader.{joined_by}
use Rattle.ap_syntax.specs.Joins.{joining}
use Rattle.ap_syntax.proofs.Joins.{joined_end}
use Rattle.ap_syntax.proofs.joining.all_joined.Goals as goal

pub loop-part-preserved : goal.loop-part-preserved
loop-part-preserved c =
    let op = joining c.args.join in
    let front = goals_of c.pop-in-loop-part.new.self.items in
    let parts : goals_of c.loop-part.parts.items ≡ front ++ goal_of_tree c.in-Some-pop.part ∷ [] =
    ap goals_of c.in-Some-pop.ensures.items ∙ map-append goal_of_tree c.pop-in-loop-part.new.self.items (c.in-Some-pop.part ∷ []) in
    let before : joined_by op ((front ++ goal_of_tree c.in-Some-pop.part ∷ []) ++ goal_of_tree c.loop-part.whole ∷ []) ≡ joined_by op (goals_of c.args.parts.items) = rw parts at c.loop-part.invariant in
    rw c.in_ok-whole.ensures (sym (joined_end op front (goal_of_tree c.in-Some-pop.part) (goal_of_tree c.loop-part.whole)) ∙ (rw append_assoc at before))
