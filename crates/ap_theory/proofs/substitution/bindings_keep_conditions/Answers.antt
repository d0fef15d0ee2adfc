use Rattle.ap_theory.proofs.SubstitutionLemmas.{under_Equal, under_Fresh}
use Rattle.ap_theory.proofs.substitution.bindings_keep_conditions.Goals as goal

pub returns-clause-fresh : goal.returns-clause-fresh
returns-clause-fresh g c = under_Fresh g.D.Conditions.holds g.E.Conditions.holds

pub returns-clause-equal : goal.returns-clause-equal
returns-clause-equal g c = under_Equal g.D.Conditions.holds g.E.Conditions.holds
