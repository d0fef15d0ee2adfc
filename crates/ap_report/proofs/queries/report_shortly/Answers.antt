use Rattle.std.proofs.Common.{◌≡◌, ◌∙◌, subst}
use Rattle.ap_defs.specs.Answers.{outs_of}
use Rattle.ap_defs.specs.Goals.{program_of}
use Rattle.ap_defs.specs.Lines.{query_lines}
use Rattle.ap_defs.specs.declared.goals.Program.{Program}
use Rattle.ap_defs.specs.declared.terms.Term.{Term}
use Rattle.ap_answers.specs.Queries.{query_locals}
use Rattle.ap_report.proofs.QueryReports.{lines_of_query}
use Rattle.ap_report.proofs.queries.report_shortly.Goals as goal

pub returns : goal.returns
returns c =
    let asked = c.args.problem.now in
    let os = outs_of c.deref.result.now in
    let lines = λ (p : Program Term). query_lines (program_of p) asked.query (query_locals (program_of p) asked.query) os in
    subst (λ (p : Program Term). c.in_ok-report.report.items ≡ lines p) c.restricted.ensures c.in_ok-report.ensures
    ∙ lines_of_query (program_of asked.program.now) asked.depth c.args.limit asked.query os c.requires.query.0 c.requires.query.1
    (λ q found. rw c.deref.ensures.value ((rw c.in-Some.is at c.in_ok-outs.ensures.outs) q found))
