use Rattle.std.proofs.lemmas.Result.{IfOk-weaker}
use Rattle.std.proofs.Common.{◌∙◌, ap}
use Rattle.ap_defs.specs.Goals.{program_of}
use Rattle.ap_defs.specs.Lines.{query_lines}
use Rattle.ap_paths.specs.Runs.{outs_of_runs}
use Rattle.ap_report.proofs.QueryReports.{report_of_query}
use Rattle.ap_report.proofs.queries.report_shared.Goals as goal

pub returns : goal.returns
returns g c =
    let asked = c.args.problem.now in
    let p = program_of asked.program.now in
    IfOk-weaker c.report_of_runs.result _ _
    (λ v made. report_of_query p asked.depth c.args.limit asked.query v.items c.requires.query.0 c.requires.query.1
    (λ q found. made q found ∙ ap (λ os. query_lines p asked.query q.locals os) (ap outs_of_runs c.deref.ensures.value ∙ c.in_ok-runs.ensures q found)))
    c.report_of_runs.ensures
