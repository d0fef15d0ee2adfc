-- The table has the variables of the run so far.
use Rattle.std.proofs.Common.{◌≡◌}
use Rattle.ap_answers.specs.VarSets.{vars_from}
use Rattle.ap_answers.proofs.var_sets.table_of_run.Given as goal

abbrev pub invariant-loop-i : goal.invariant-loop-i
invariant-loop-i l = l.table.keys ≡ vars_from l.run.first l.i
