use Rattle.std.proofs.Common.{◌≡◌, ◌++◌, drop, ◌↔◌}
use Rattle.ap_paths.specs.Trees.{GoesOn, InChoiceTree}
use Rattle.ap_backchain.specs.Branches.{IsDescentOf, path_of_descent}
use Rattle.ap_replay.specs.ProblemTrees.{problem_choices}
use Rattle.ap_replay.proofs.replay.at.Given as goal

-- the search stands where the choices so far lead, and the tree has the path where it has the rest from there
abbrev pub invariant-stepping : goal.invariant-stepping
invariant-stepping l = record {
  of : IsDescentOf l.p l.descent;
  path : path_of_descent l.descent ++ drop l.choice-index l.choices ≡ l.choices;
  there : GoesOn (problem_choices l.p) (path_of_descent l.descent) (drop l.choice-index l.choices) ↔ InChoiceTree (problem_choices l.p) l.choices;
}
