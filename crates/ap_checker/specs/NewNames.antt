-- Whether a name is new for a part of a goal, where `new` and `exists` round the part bring names and variables.
use Rattle.std.specs.Prelude.{ℕ, ◌+◌, Bool, ◌&&◌, List}
use Rattle.ap_defs.specs.declared.terms.Id.{Id}
use Rattle.ap_defs.specs.declared.terms.Name.{Name}
use Rattle.ap_defs.specs.Freshness.{Conds}
use Rattle.ap_defs.specs.Goals as goals
use Rattle.ap_defs.specs.Goals.{NominalGoal, goal_of}
use Rattle.ap_defs.specs.Occurrences.{free_names, free_vars}
use Rattle.ap_checks.specs.OpenEnvironments.{OpenEnvironment}
use Rattle.ap_sides.specs.Brought.{are_apart, are_fresh}
use Rattle.ap_checker.specs.declared.new_names.Part.{Part}

abbrev pub is_new_inside : Conds → Name → OpenEnvironment → List Id → Part → Bool
is_new_inside ds c e brought p = are_apart c e brought (free_names (goal_of p.goal.now)) && are_fresh ds c e brought (free_vars (goal_of p.goal.now))

abbrev pub mark_of_part : Part → ℕ
mark_of_part p = p.mark

-- how many goals a goal has
abbrev pub goal_size : NominalGoal → ℕ
goal_size goals.succeed = 1
goal_size (goals.atom p ts) = 1
goal_size (goals.equal t u) = 1
goal_size (goals.fresh t u) = 1
goal_size (goals.both g h) = 1 + goal_size g + goal_size h
goal_size (goals.either g h) = 1 + goal_size g + goal_size h
goal_size (goals.exists x g) = 1 + goal_size g
goal_size (goals.new a g) = 1 + goal_size g

abbrev pub size_of_part : Part → ℕ
size_of_part p = goal_size (goal_of p.goal.now)
