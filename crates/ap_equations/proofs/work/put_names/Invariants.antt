use Rattle.std.proofs.Common.{◌≡◌, ◌++◌, drop, map}
use Rattle.ap_defs.specs.Unification.{fresh_for}
use Rattle.ap_rules.specs.Work.{problem_for}
use Rattle.ap_equations.proofs.work.put_names.Given as goal

-- the problems so far and those of the other names are all
abbrev pub invariant-putting : goal.invariant-putting
invariant-putting l = record {
  equations : l.work.equations.items ≡ l.initial.work.equations.items;
  taken : l.work.taken.items ≡ l.initial.work.taken.items;
  problems : map problem_for l.work.problems.items ++ map (fresh_for l.x) (drop l.a-index l.names) ≡ map problem_for l.initial.work.problems.items ++ map (fresh_for l.x) l.names;
}
