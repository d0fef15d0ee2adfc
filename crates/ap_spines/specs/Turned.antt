-- Terms and goals in which the way down to what is last is turned round: each part on it has what is above in place of what is
-- below.
use Rattle.std.specs.Prelude.{ℕ, ◌+◌}
use Rattle.ap_defs.specs.RawTerms.{RawTerm, unit, name, var, pair, app, abs, swapped}
use Rattle.ap_defs.specs.Goals.{GoalOver, succeed, atom, equal, fresh, both, either, exists, new}

-- the term with this last part, by what is above it
abbrev pub turned_back : RawTerm → RawTerm → RawTerm
turned_back unit t = t
turned_back (name a) t = t
turned_back (var x) t = t
turned_back (pair left above) t = turned_back above (pair left t)
turned_back (app f above) t = turned_back above (app f t)
turned_back (abs i above) t = turned_back above (abs i t)
turned_back (swapped i j above) t = turned_back above (swapped i j t)

-- the goal with this last part, by what is above it
abbrev pub goal_turned_back : GoalOver RawTerm → GoalOver RawTerm → GoalOver RawTerm
goal_turned_back succeed g = g
goal_turned_back (atom p ts) g = g
goal_turned_back (equal t u) g = g
goal_turned_back (fresh t u) g = g
goal_turned_back (both left above) g = goal_turned_back above (both left g)
goal_turned_back (either left above) g = goal_turned_back above (either left g)
goal_turned_back (exists x above) g = goal_turned_back above (exists x g)
goal_turned_back (new a above) g = goal_turned_back above (new a g)

-- how many parts a term has
abbrev pub part_count : RawTerm → ℕ
part_count unit = 1
part_count (name a) = 1
part_count (var x) = 1
part_count (pair t u) = 1 + part_count t + part_count u
part_count (app f t) = 1 + part_count t
part_count (abs i t) = 1 + part_count t
part_count (swapped i j t) = 1 + part_count t

-- how many goals stand in a goal
abbrev pub goal_count : GoalOver RawTerm → ℕ
goal_count succeed = 1
goal_count (atom p ts) = 1
goal_count (equal t u) = 1
goal_count (fresh t u) = 1
goal_count (both g h) = 1 + goal_count g + goal_count h
goal_count (either g h) = 1 + goal_count g + goal_count h
goal_count (exists x g) = 1 + goal_count g
goal_count (new a g) = 1 + goal_count g
