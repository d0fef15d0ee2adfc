use Rattle.std.proofs.lemmas.Result.{IfOk-weaker}
use Rattle.ap_defs.specs.Goals.{program_of}
use Rattle.ap_report.proofs.QueryReports.{report_of_query}
use Rattle.ap_report.proofs.queries.report_query.Goals as goal

pub returns-then-get-eq1 : goal.returns-then-get-eq1
returns-then-get-eq1 g c =
    let asked = c.args.problem.now in
    IfOk-weaker c.stream_report.result _ _
    (λ v made. report_of_query (program_of asked.program.now) asked.depth c.args.limit asked.query v.items c.requires.query.0 c.requires.query.1 made)
    c.stream_report.ensures
