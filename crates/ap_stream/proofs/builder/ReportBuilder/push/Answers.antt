use Rattle.std.proofs.Common.{◌∷◌, ◌∙◌, ap, sym}
use Rattle.std.specs.Prelude.{Result, Ok, Err, OnOk}
use Rattle.ap_defs.specs.Answers.{out_of}
use Rattle.ap_defs.specs.Goals.{program_of}
use Rattle.ap_defs.specs.Types.{locals_of}
use Rattle.ap_defs.specs.declared.paths.Out.{Out}
use Rattle.ap_stream.specs.Builders.{report_with}
use Rattle.ap_stream.proofs.LineLemmas.{cut_unseen, stuck_unseen}
use Rattle.ap_stream.proofs.builder.ReportBuilder.push.Goals as goal

weaker : {T E P Q : Type 0} (r : Result T E) → (P → Q) → OnOk r P → OnOk r Q
weaker (Ok x) f h = f h
weaker (Err e) f h = tt

pub returns-in-Cut : goal.returns-in-Cut
returns-in-Cut c =
    let program = program_of c.args.program.now in
    let locals = locals_of c.args.locals.now in
    weaker c.add_cuts.result
    (λ h query os. h program query locals os ∙ cut_unseen program locals query c.args.self.now c.in-Cut.field-0 os ∙ ap (λ (o : Out). report_with program query locals c.args.self.now (out_of o ∷ os)) (sym c.in-Cut.is))
    c.add_cuts.ensures

pub returns-in-Stuck : goal.returns-in-Stuck
returns-in-Stuck c =
    let program = program_of c.args.program.now in
    let locals = locals_of c.args.locals.now in
    weaker c.add_stuck.result
    (λ h query os. h program query locals os ∙ stuck_unseen program locals query c.args.self.now c.in-Stuck.field-0 os ∙ ap (λ (o : Out). report_with program query locals c.args.self.now (out_of o ∷ os)) (sym c.in-Stuck.is))
    c.add_stuck.ensures
