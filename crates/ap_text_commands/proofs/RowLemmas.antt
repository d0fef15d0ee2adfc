-- The clauses beside the numbers of a table of uses are those that are counted.
use Rattle.std.proofs.Common.{◌≡◌, ℕ, suc, List, [], ◌∷◌, ◌++◌, refl, ap, ap₂, ◌∙◌}
use Rattle.ap_defs.specs.Goals.{Clauses, NominalClause, NominalProgram}
use Rattle.ap_derive.specs.Uses.{ClauseUse, saturated, times_used, use_row, use_rows, use_table}
use Rattle.ap_program_proofs.specs.ProgramUses.{uses_of_queries}
use Rattle.ap_text_commands.specs.Counts.{clause_counts, counts_of_clauses, counts_of_predicates, in_order_of_items}
use Rattle.ap_text_commands.specs.Rows.{counts_in_row, counts_in_rows}
use Rattle.ap_text_commands.specs.declared.counting.counts.ClauseCount.{ClauseCount}

row_counted : (p k : ℕ) (cs : List NominalClause) (us : List ClauseUse) → counts_in_row cs (use_row p k cs us) ≡ counts_of_clauses p k cs us
row_counted p k [] us = refl
row_counted p k (c ∷ cs) us =
    ap (λ ns. record { item = c.item; line = c.line; uses = saturated (times_used p k us) } ∷ ns) (row_counted p (suc k) cs us)

rows_counted : (p : ℕ) (css : Clauses) (us : List ClauseUse) → counts_in_rows css (use_rows p css us) ≡ counts_of_predicates p css us
rows_counted p [] us = refl
rows_counted p (cs ∷ css) us = ap₂ (λ (xs ys : List ClauseCount). xs ++ ys) (row_counted p 1 cs us) (rows_counted (suc p) css us)

pub all_counted : (depth : ℕ) (p : NominalProgram) (css : Clauses) (table : List (List ℕ)) (counts ordered : List ClauseCount)
    → css ≡ p.clauses → table ≡ use_table p.clauses (uses_of_queries p.clauses depth p.queries) → counts ≡ counts_in_rows css table
    → ordered ≡ in_order_of_items counts → ordered ≡ clause_counts depth p
all_counted depth p css table counts ordered same counted is made =
    made ∙ ap in_order_of_items (is ∙ ap₂ counts_in_rows same counted ∙ rows_counted 0 p.clauses (uses_of_queries p.clauses depth p.queries))
