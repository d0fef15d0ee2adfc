use Rattle.ap_theory.proofs.MostGeneralLemmas.{unify_Solves}
use Rattle.ap_theory.proofs.unification.unification_is_most_general_on_terms.Goals as goal

pub returns : goal.returns
returns g c = unify_Solves g.D.Conditions.holds
