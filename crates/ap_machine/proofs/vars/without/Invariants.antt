use Rattle.std.proofs.Common.{◌≡◌, ◌++◌, drop}
use Rattle.ap_defs.specs.Occurrences.{without_var}
use Rattle.ap_machine.proofs.vars.without.Given as goal

-- the variables so far and those of the rest are all
abbrev pub invariant-choosing : goal.invariant-choosing
invariant-choosing l = l.others.items ++ without_var l.x (drop l.y-index l.vars) ≡ without_var l.x l.vars
