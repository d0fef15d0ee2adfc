use Rattle.ap_theory.proofs.SameTermLemmas.{canonical_term_same, same_iff_canonical}
use Rattle.ap_theory.proofs.equality.canonical_terms.Goals as goal

pub returns-clause-one : goal.returns-clause-one
returns-clause-one c = same_iff_canonical

pub returns-clause-same : goal.returns-clause-same
returns-clause-same c = canonical_term_same
