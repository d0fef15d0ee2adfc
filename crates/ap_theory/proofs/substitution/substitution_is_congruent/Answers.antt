use Rattle.ap_theory.proofs.SubstitutionLemmas.{applied_congruent}
use Rattle.ap_theory.proofs.substitution.substitution_is_congruent.Goals as goal

pub returns : goal.returns
returns g c = applied_congruent g.D.Conditions.holds
