use Rattle.std.proofs.Common.{◌≡◌, ◌<◌, ◌≤◌, ◌+◌, ◌-◌, ◌*◌, length, vec_len}
use Rattle.ap_trees.specs.Readers.{with_before, further, separated}
use Rattle.ap_trees.specs.Symbols.{syms}
use Rattle.ap_trees.specs.Trees.{goals_of}
use Rattle.ap_syntax.specs.GoalReader.{read_goal}
use Rattle.ap_syntax.specs.Joins.{after_mark, read_part}
use Rattle.ap_syntax.proofs.Joins.{rank_of}
use Rattle.ap_syntax.proofs.goals.+goals.Given as goal

abbrev pub decreases-any_goal : goal.decreases-any_goal
decreases-any_goal l = 16 * l.levels

abbrev pub decreases-goal_inside : goal.decreases-goal_inside
decreases-goal_inside l = 16 * l.levels + 1

abbrev pub decreases-new_goal : goal.decreases-new_goal
decreases-new_goal l = 16 * l.levels + 2

abbrev pub decreases-exists_goal : goal.decreases-exists_goal
decreases-exists_goal l = 16 * l.levels + 2

abbrev pub decreases-simple : goal.decreases-simple
decreases-simple l = 16 * l.levels + 3

abbrev pub decreases-part : goal.decreases-part
decreases-part l = 16 * l.levels + rank_of l.join + 4

abbrev pub decreases-further_parts : goal.decreases-further_parts
decreases-further_parts l = 16 * l.levels + rank_of l.join + 5

abbrev pub decreases-longer_goal : goal.decreases-longer_goal
decreases-longer_goal l = 16 * l.levels + rank_of l.join + 6

abbrev pub decreases-joined_goals : goal.decreases-joined_goals
decreases-joined_goals l = 16 * l.levels + rank_of l.join + 7

abbrev pub invariant-further_parts-loop-after : goal.invariant-further_parts-loop-after
invariant-further_parts-loop-after l = record {
  read : with_before (goals_of l.all.items) (further (after_mark l.join) (separated (after_mark l.join) (read_part l.join (read_goal l.levels)) (length l.symbols - vec_len l.all)) (syms l.rest)) ≡ separated (after_mark l.join) (read_part l.join (read_goal l.levels)) (length l.symbols) (syms l.symbols);
  enough : length l.rest + vec_len l.all ≤ length l.symbols;
  some : length l.rest < length l.symbols;
}

abbrev pub decreases-further_parts-loop-after : goal.decreases-further_parts-loop-after
decreases-further_parts-loop-after l = length l.rest
