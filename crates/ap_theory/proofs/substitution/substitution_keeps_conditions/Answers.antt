use Rattle.ap_theory.proofs.SubstitutionLemmas.{applied_Equal, applied_Fresh}
use Rattle.ap_theory.proofs.substitution.substitution_keeps_conditions.Goals as goal

pub returns-clause-fresh : goal.returns-clause-fresh
returns-clause-fresh g c = applied_Fresh g.D.Conditions.holds g.E.Conditions.holds

pub returns-clause-equal : goal.returns-clause-equal
returns-clause-equal g c = applied_Equal g.D.Conditions.holds g.E.Conditions.holds
