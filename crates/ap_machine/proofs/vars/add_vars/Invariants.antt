use Rattle.std.proofs.Common.{◌++◌, drop}
use Rattle.ap_search.specs.Records.{SameVars}
use Rattle.ap_machine.proofs.vars.add_vars.Given as goal

-- the variables so far and the rest are all
abbrev pub invariant-adding : goal.invariant-adding
invariant-adding l = SameVars (l.vars.items ++ drop l.x-index l.more) (l.initial.vars.items ++ l.more)
