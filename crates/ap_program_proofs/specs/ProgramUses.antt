-- How often each clause of a program is used in the derivations of all answers of its queries.
use Rattle.std.specs.Prelude.{ℕ, List, [], ◌∷◌, ◌++◌}
use Rattle.ap_defs.specs.Goals.{Clauses, NominalQuery}
use Rattle.ap_derive.specs.Uses.{ClauseUse}
use Rattle.ap_query_proofs.specs.QueryUses.{uses_of_query}

-- those of all queries, one after the other
abbrev pub uses_of_queries : Clauses → ℕ → List NominalQuery → List ClauseUse
uses_of_queries program depth [] = []
uses_of_queries program depth (q ∷ qs) = uses_of_query program depth q ++ uses_of_queries program depth qs
