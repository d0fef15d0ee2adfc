use Rattle.std.proofs.Common.{ap₂, subst, sym}
use Rattle.ap_defs.specs.Renaming.{IsBelow}
use Rattle.ap_defs.specs.Substitution.{◌≐◌}
use Rattle.ap_unify.proofs.moved_runs.pair_of.Goals as goal

pub returns-clause-same : goal.returns-clause-same
returns-clause-same c = ap₂ ◌≐◌ c.in_ok-left.ensures c.in_ok-right.ensures

pub returns-clause-below : goal.returns-clause-below
returns-clause-below c = λ n h. (subst (IsBelow n) (sym c.in_ok-left.ensures) h.0, subst (IsBelow n) (sym c.in_ok-right.ensures) h.1)
