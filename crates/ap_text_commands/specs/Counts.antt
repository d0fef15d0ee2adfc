-- How often each clause of a program is used in the derivations of all answers of its queries.
use Rattle.std.specs.Prelude.{ℕ, suc, nat_le, if◌then◌else◌, List, [], ◌∷◌, ◌++◌}
use Rattle.ap_defs.specs.Goals.{Clauses, NominalClause, NominalProgram}
use Rattle.ap_derive.specs.Uses.{ClauseUse, saturated, times_used}
use Rattle.ap_program_proofs.specs.ProgramUses.{uses_of_queries}
use Rattle.ap_text_commands.specs.declared.counting.counts.ClauseCount.{ClauseCount}

-- the clauses of a predicate, of which the first has this number, each with how often it is among the uses
abbrev pub counts_of_clauses : ℕ → ℕ → List NominalClause → List ClauseUse → List ClauseCount
counts_of_clauses p k [] us = []
counts_of_clauses p k (c ∷ cs) us =
    record { item = c.item; line = c.line; uses = saturated (times_used p k us) } ∷ counts_of_clauses p (suc k) cs us

-- the clauses of predicates, of which the first has this number, likewise
abbrev pub counts_of_predicates : ℕ → Clauses → List ClauseUse → List ClauseCount
counts_of_predicates p [] us = []
counts_of_predicates p (cs ∷ css) us = counts_of_clauses p 1 cs us ++ counts_of_predicates (suc p) css us

-- in order of items
abbrev pub insert_count : ClauseCount → List ClauseCount → List ClauseCount
insert_count c [] = c ∷ []
insert_count c (d ∷ ds) = if nat_le c.item d.item then (c ∷ d ∷ ds) else (d ∷ insert_count c ds)

abbrev pub in_order_of_items : List ClauseCount → List ClauseCount
in_order_of_items [] = []
in_order_of_items (c ∷ cs) = insert_count c (in_order_of_items cs)

-- each clause of a program, in order of items, with how often it is used in the derivations of all answers to a depth
abbrev pub clause_counts : ℕ → NominalProgram → List ClauseCount
clause_counts depth p = in_order_of_items (counts_of_predicates 0 p.clauses (uses_of_queries p.clauses depth p.queries))
