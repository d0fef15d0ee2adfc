-- What is proved of branches that stand at answers.
use Rattle.std.specs.Prelude.{◌≡◌, ◌-◌, Some, slice_get}
use Rattle.ap_defs.specs.Derivations.{NominalDerivation}
use Rattle.ap_defs.specs.Goals.{NominalQuery}
use Rattle.ap_backchain.specs.Branches.{IsAnswering, IsBranchOf, path_of_branch}
use Rattle.ap_backchain.specs.Problems.{clauses_in, queries_in}
use Rattle.ap_backchain.specs.declared.branch.Branch.{Branch}
use Rattle.ap_backchain.specs.declared.problem.Problem.{Problem}
use Rattle.ap_derive.specs.Derived.{IsDerivationAt}

-- a branch of a problem that stands at an answer has a state and a derivation, which the search finds at its path
abbrev pub AnswersHaveDerivations : Type 0
AnswersHaveDerivations = (p : Problem) (b : Branch) → IsBranchOf p b → IsAnswering b → (q : NominalQuery) → slice_get (queries_in p) (p.query - 1) ≡ Some q
    → (d : NominalDerivation) × IsDerivationAt (clauses_in p) p.depth q (path_of_branch b) d

-- and no other derivation
abbrev pub DerivationsAreUnique : Type 0
DerivationsAreUnique = (p : Problem) (b : Branch) (q : NominalQuery) (d e : NominalDerivation) → IsDerivationAt (clauses_in p) p.depth q (path_of_branch b) d
    → IsDerivationAt (clauses_in p) p.depth q (path_of_branch b) e → d ≡ e
