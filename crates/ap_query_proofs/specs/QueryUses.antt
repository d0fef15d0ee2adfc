-- How often each clause of a program is used in the derivations of all answers of a query.
use Rattle.std.specs.Prelude.{ℕ, List, [], ◌∷◌}
use Rattle.ap_defs.specs.Answers.{derivation_in}
use Rattle.ap_defs.specs.Derivations.{NominalDerivation}
use Rattle.ap_defs.specs.Goals.{Clauses, NominalQuery}
use Rattle.ap_defs.specs.Resolution.{Output, cut, found, solve_query, chose, stuck}
use Rattle.ap_derive.specs.Uses.{ClauseUse, uses_in_each}

-- the derivation of each state that was found
abbrev pub derivations_among : List Output → List NominalDerivation
derivations_among [] = []
derivations_among (found path s d ∷ os) = derivation_in s d ∷ derivations_among os
derivations_among (cut path ∷ os) = derivations_among os
derivations_among (stuck path ∷ os) = derivations_among os
derivations_among (chose path c ∷ os) = derivations_among os

-- the uses of clauses in the derivations of all answers of a query to a depth
abbrev pub uses_of_query : Clauses → ℕ → NominalQuery → List ClauseUse
uses_of_query program depth q = uses_in_each program q.goal (derivations_among (solve_query program depth q))
