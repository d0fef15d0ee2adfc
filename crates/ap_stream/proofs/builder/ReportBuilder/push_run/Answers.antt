use Rattle.std.proofs.Common.{◌++◌, ◌∙◌, ap, sym}
use Rattle.std.specs.Prelude.{Result, Ok, Err, OnOk}
use Rattle.ap_defs.specs.Goals.{program_of}
use Rattle.ap_defs.specs.Types.{locals_of}
use Rattle.ap_paths.specs.Runs.{outs_of_run}
use Rattle.ap_paths.specs.declared.runs.Run.{Run}
use Rattle.ap_stream.specs.Builders.{report_with}
use Rattle.ap_stream.proofs.builder.ReportBuilder.push_run.Goals as goal

weaker : {T E P Q : Type 0} (r : Result T E) → (P → Q) → OnOk r P → OnOk r Q
weaker (Ok x) f h = f h
weaker (Err e) f h = tt

pub returns-in-One : goal.returns-in-One
returns-in-One c =
    let program = program_of c.args.program.now in
    let locals = locals_of c.args.locals.now in
    weaker c.push.result
    (λ h query os. h query os ∙ ap (λ (r : Run). report_with program query locals c.args.self.now (outs_of_run r ++ os)) (sym c.in-One.is))
    c.push.ensures

pub returns-in-Cuts : goal.returns-in-Cuts
returns-in-Cuts c =
    let program = program_of c.args.program.now in
    let locals = locals_of c.args.locals.now in
    weaker c.add_cuts.result
    (λ h query os. h program query locals os ∙ ap (λ (r : Run). report_with program query locals c.args.self.now (outs_of_run r ++ os)) (sym c.in-Cuts.is))
    c.add_cuts.ensures

pub returns-in-Stuck : goal.returns-in-Stuck
returns-in-Stuck c =
    let program = program_of c.args.program.now in
    let locals = locals_of c.args.locals.now in
    weaker c.add_stuck.result
    (λ h query os. h program query locals os ∙ ap (λ (r : Run). report_with program query locals c.args.self.now (outs_of_run r ++ os)) (sym c.in-Stuck.is))
    c.add_stuck.ensures
