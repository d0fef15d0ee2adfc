use Rattle.std.proofs.Common.{◌<◌, sym, subst}
use Rattle.ap_defs.specs.declared.terms.Ty.TheViews.{size-Ty}
use Rattle.ap_defs.proofs.terms.turn_owned.Goals as goal

pub returns-in-Some-clause-lefts : goal.returns-in-Some-clause-lefts
returns-in-Some-clause-lefts c n e l h = c.turn_type.ensures.lefts n e (subst (λ t. size-Ty t < n) (sym c.in-Some.ensures.value) l) h
