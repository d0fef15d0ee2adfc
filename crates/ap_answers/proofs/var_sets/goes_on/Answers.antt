use Rattle.std.proofs.Common.{◌+◌, refl, arith}
use Rattle.ap_answers.specs.declared.var_sets.Run.{Run}
use Rattle.ap_answers.proofs.VarSetLemmas.{run_goes_on}
use Rattle.ap_answers.proofs.var_sets.goes_on.Goals as goal

pub returns-then-num-run-2-clause-added : goal.returns-then-num-run-2-clause-added
returns-then-num-run-2-clause-added c =
    let longer : Run = record { first = c.args.run.now.first; end = c.args.var.num + 1 } in
    λ e. run_goes_on c.args.run.now longer c.args.var (omega arith) (omega arith) refl refl
