use Rattle.ap_theory.proofs.ReplacementLemmas.{act_ground_fixed, fresh_absent}
use Rattle.ap_theory.proofs.replacement.names_of_ground_terms.Goals as goal

pub returns-clause-absent : goal.returns-clause-absent
returns-clause-absent c = fresh_absent

pub returns-clause-fixed : goal.returns-clause-fixed
returns-clause-fixed c = act_ground_fixed
