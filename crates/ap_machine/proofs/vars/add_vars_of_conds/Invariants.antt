use Rattle.std.proofs.Common.{◌≡◌, ◌++◌, drop, map}
use Rattle.ap_machine.proofs.vars.add_vars_of_conds.Given as goal

-- the variables so far and those of the rest are all
abbrev pub invariant-adding : goal.invariant-adding
invariant-adding l = l.vars.items ++ map (λ c. c.var) (drop l.c-index l.conds) ≡ l.initial.vars.items ++ map (λ c. c.var) l.conds
