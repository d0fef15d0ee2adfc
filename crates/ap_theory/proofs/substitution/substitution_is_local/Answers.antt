use Rattle.ap_theory.proofs.SubstitutionLemmas.{applied_local, size_occurs_most}
use Rattle.ap_theory.proofs.substitution.substitution_is_local.Goals as goal

pub returns-clause-occurring : goal.returns-clause-occurring
returns-clause-occurring c = applied_local

pub returns-clause-size : goal.returns-clause-size
returns-clause-size c = size_occurs_most
