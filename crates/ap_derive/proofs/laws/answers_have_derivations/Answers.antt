use Rattle.ap_backchain.specs.Branches.{path_of_branch}
use Rattle.ap_backchain.specs.Problems.{clauses_in}
use Rattle.ap_derive.proofs.DerivedLemmas.{branches_have, derived_once}
use Rattle.ap_derive.proofs.laws.answers_have_derivations.Goals as goal

pub returns-clause-some : goal.returns-clause-some
returns-clause-some c = branches_have

pub returns-clause-one : goal.returns-clause-one
returns-clause-one c = λ p b q. derived_once (clauses_in p) p.depth q (path_of_branch b)
