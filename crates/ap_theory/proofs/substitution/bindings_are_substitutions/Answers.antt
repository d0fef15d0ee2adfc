use Rattle.ap_theory.proofs.SubstitutionLemmas.{put_absent, put_act, put_substitution, under_act, under_applied}
use Rattle.ap_theory.proofs.substitution.bindings_are_substitutions.Goals as goal

pub returns-clause-under : goal.returns-clause-under
returns-clause-under c = under_applied

pub returns-clause-put : goal.returns-clause-put
returns-clause-put c = put_substitution

pub returns-clause-absent : goal.returns-clause-absent
returns-clause-absent c = put_absent

pub returns-clause-under_commutes : goal.returns-clause-under_commutes
returns-clause-under_commutes c = under_act

pub returns-clause-put_commutes : goal.returns-clause-put_commutes
returns-clause-put_commutes c = put_act
