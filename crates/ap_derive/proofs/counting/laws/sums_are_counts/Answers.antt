use Rattle.ap_derive.proofs.UseLemmas.{sum_of_tables}
use Rattle.ap_derive.proofs.counting.laws.sums_are_counts.Goals as goal

pub returns : goal.returns
returns c = sum_of_tables
