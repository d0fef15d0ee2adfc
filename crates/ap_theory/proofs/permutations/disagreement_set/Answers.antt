use Rattle.ap_theory.proofs.DisagreementLemmas.{disagreement_empty, disagreement_none, disagreement_same, has_disagreement}
use Rattle.ap_theory.proofs.permutations.disagreement_set.Goals as goal

pub returns-clause-whole : goal.returns-clause-whole
returns-clause-whole c = has_disagreement

pub returns-clause-none : goal.returns-clause-none
returns-clause-none c = disagreement_none

pub returns-clause-equal : goal.returns-clause-equal
returns-clause-equal c = disagreement_empty

pub returns-clause-alike : goal.returns-clause-alike
returns-clause-alike c = disagreement_same
