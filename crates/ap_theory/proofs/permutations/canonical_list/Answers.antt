use Rattle.ap_theory.proofs.CanonicalLemmas.{canonical_act, canonical_canonical, canonical_names, canonical_same}
use Rattle.ap_theory.proofs.permutations.canonical_list.Goals as goal

pub returns-clause-equal : goal.returns-clause-equal
returns-clause-equal c = canonical_act

pub returns-clause-one : goal.returns-clause-one
returns-clause-one c = canonical_same

pub returns-clause-own : goal.returns-clause-own
returns-clause-own c = canonical_canonical

pub returns-clause-moved : goal.returns-clause-moved
returns-clause-moved c = canonical_names
