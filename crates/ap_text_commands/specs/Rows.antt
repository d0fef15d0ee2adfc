-- Clauses beside their numbers in a table of uses.
use Rattle.std.specs.Prelude.{ℕ, List, [], ◌∷◌, ◌++◌}
use Rattle.std.specs.Ordering.{ordering_then, nat_cmp}
use Rattle.std.specs.declared.cmp.Ordering.{Ordering}
use Rattle.ap_defs.specs.Goals.{Clauses, NominalClause}
use Rattle.ap_text_commands.specs.declared.counting.counts.ClauseCount.{ClauseCount}

-- the clauses of a predicate with the numbers of its row
abbrev pub counts_in_row : List NominalClause → List ℕ → List ClauseCount
counts_in_row [] ns = []
counts_in_row (c ∷ cs) [] = []
counts_in_row (c ∷ cs) (n ∷ ns) = record { item = c.item; line = c.line; uses = n } ∷ counts_in_row cs ns

-- those of predicates with the numbers of their rows
abbrev pub counts_in_rows : Clauses → List (List ℕ) → List ClauseCount
counts_in_rows [] rows = []
counts_in_rows (cs ∷ css) [] = []
counts_in_rows (cs ∷ css) (row ∷ rows) = counts_in_row cs row ++ counts_in_rows css rows

-- items are compared first, and then places
abbrev pub row_cmp : ℕ × ℕ → ℕ × ℕ → Ordering
row_cmp k l = ordering_then (nat_cmp k.0 l.0) (nat_cmp k.1 l.1)
