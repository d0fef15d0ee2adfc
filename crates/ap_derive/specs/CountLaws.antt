-- Saturated counts may be added: the sum of the counts in two parts is the count in both.
use Rattle.std.specs.Prelude.{◌≡◌, List, ◌++◌}
use Rattle.ap_defs.specs.Goals.{Clauses}
use Rattle.ap_derive.specs.Tables.{added_rows}
use Rattle.ap_derive.specs.Uses.{ClauseUse, use_table}

abbrev pub SumsAreCounts : Type 0
SumsAreCounts = (program : Clauses) (us vs : List ClauseUse) → added_rows (use_table program us) (use_table program vs) ≡ use_table program (us ++ vs)
