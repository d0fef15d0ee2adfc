-- With those that are left the ones so far are all.
use Rattle.std.proofs.Common.{◌≡◌, map, length}
use Rattle.ap_defs.specs.declared.terms.Cond.{Cond}
use Rattle.ap_answers.specs.Occurring.{more_vars}
use Rattle.ap_steps.proofs.names.add_vars_in.Given as goal

abbrev pub invariant-conds : goal.invariant-conds
invariant-conds l = more_vars l.vars.keys (map (λ (c : Cond). c.var) l.rest) ≡ more_vars l.fn.vars.keys (map (λ (c : Cond). c.var) l.fn.conds)

abbrev pub decreases-conds : goal.decreases-conds
decreases-conds l = length l.rest
