-- With those that are left the ones so far are all.
use Rattle.std.proofs.Common.{◌≡◌, map, length}
use Rattle.ap_defs.specs.declared.terms.Cond.{Cond}
use Rattle.ap_answers.specs.Occurring.{more_names}
use Rattle.ap_steps.proofs.names.add_names_in.Given as goal

abbrev pub invariant-conds : goal.invariant-conds
invariant-conds l = more_names l.names.keys (map (λ (c : Cond). c.name) l.rest) ≡ more_names l.fn.names.keys (map (λ (c : Cond). c.name) l.fn.conds)

abbrev pub decreases-conds : goal.decreases-conds
decreases-conds l = length l.rest
