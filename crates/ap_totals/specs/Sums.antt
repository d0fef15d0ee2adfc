-- Totals of one query, sums of totals, and the room that these need.
use Rattle.std.specs.Prelude.{◌+◌, ◌^◌, ◌<◌, ◌≤◌, ℕ, List, length}
use Rattle.ap_defs.specs.Answers.{NominalOut, cut, found, query_outs, stuck}
use Rattle.ap_defs.specs.Goals.{NominalProgram, NominalQuery}
use Rattle.ap_defs.specs.Lines.{count_of, is_cut, is_found, is_stuck, query_lines}
use Rattle.ap_totals.specs.declared.totals.Totals.{Totals}

-- outputs counted by what they are, beside so many bytes
abbrev pub output_totals : List NominalOut → ℕ → Totals
output_totals os n = record { answers = count_of is_found os; cut = count_of is_cut os; stuck = count_of is_stuck os; bytes = n }

-- those of a query with this number, to a depth
abbrev pub totals_at : NominalProgram → ℕ → ℕ → NominalQuery → Totals
totals_at p depth k q =
    output_totals (query_outs p.clauses depth q) (length (query_lines p k q.locals (query_outs p.clauses depth q)))

-- with one more output
abbrev pub with_out : Totals → NominalOut → Totals
with_out t (found p a) = record { answers = t.answers + 1; cut = t.cut; stuck = t.stuck; bytes = t.bytes }
with_out t (cut p) = record { answers = t.answers; cut = t.cut + 1; stuck = t.stuck; bytes = t.bytes }
with_out t (stuck p) = record { answers = t.answers; cut = t.cut; stuck = t.stuck + 1; bytes = t.bytes }

abbrev pub sum_of_both : Totals → Totals → Totals
sum_of_both t u =
    record { answers = t.answers + u.answers; cut = t.cut + u.cut; stuck = t.stuck + u.stuck; bytes = t.bytes + u.bytes }

-- the sums have room
abbrev pub HaveRoom : Totals → Totals → Type 0
HaveRoom t u =
    (t.answers + u.answers < 2 ^ 128) × (t.cut + u.cut < 2 ^ 128) × (t.stuck + u.stuck < 2 ^ 128) × (t.bytes + u.bytes < 2 ^ 128)

-- so many of each at most
abbrev pub IsSumAtMost : ℕ → Totals → Type 0
IsSumAtMost n t = (t.answers ≤ n) × (t.cut ≤ n) × (t.stuck ≤ n) × (t.bytes ≤ n)
