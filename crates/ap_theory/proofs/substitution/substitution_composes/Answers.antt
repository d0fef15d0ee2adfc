use Rattle.ap_theory.proofs.SubstitutionLemmas.{applied_act, applied_applied, applied_variables}
use Rattle.ap_theory.proofs.substitution.substitution_composes.Goals as goal

pub returns-clause-commutes : goal.returns-clause-commutes
returns-clause-commutes c = applied_act

pub returns-clause-composes : goal.returns-clause-composes
returns-clause-composes c = applied_applied

pub returns-clause-identity : goal.returns-clause-identity
returns-clause-identity c = applied_variables
