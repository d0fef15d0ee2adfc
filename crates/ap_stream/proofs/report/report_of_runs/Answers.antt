use Rattle.std.proofs.Common.{◌+◌, ◌-◌, drop, ap, ◌∙◌}
use Rattle.std.specs.Prelude.{slice_get}
use Rattle.std.proofs.lemmas.Result.{IfOk-weaker}
use Rattle.ap_defs.specs.Goals.{NominalQuery, program_of, query_of}
use Rattle.ap_defs.specs.Lines.{query_lines}
use Rattle.ap_defs.specs.Types.{locals_of}
use Rattle.ap_defs.specs.declared.goals.Program.{Program}
use Rattle.ap_defs.specs.declared.terms.Term.{Term}
use Rattle.ap_backchain.specs.Problems.{program_of_problem, queries_in}
use Rattle.ap_paths.specs.Runs.{outs_of_runs}
use Rattle.ap_stream.specs.Builders.{report_with}
use Rattle.ap_stream.proofs.RunLemmas.{asked_once, next_run, no_run_left}
use Rattle.ap_stream.proofs.report.report_of_runs.Goals as goal

pub adding-init : goal.adding-init
adding-init c = λ q asked.
    let asked_of = c.args.problem.now in
    let p = program_of_problem asked_of in
    let n = asked_of.query in
    let query = query_of c.query_of_problem.result.now in
    let os = outs_of_runs c.args.runs.now in
    let locals = c.items-locals.result.now in
    c.new-builder.ensures (program_of c.program-program.result.now) n (locals_of locals) os
    ∙ ap (λ (x : Program Term). query_lines (program_of x) n (locals_of locals) os) c.program-program.ensures.same
    ∙ ap (λ ls. query_lines p n (locals_of ls) os) c.items-locals.ensures
    ∙ ap (λ (x : NominalQuery). query_lines p n x.locals os) (asked_once (slice_get (queries_in asked_of) (n - 1)) query q c.query_of_problem.ensures.query asked)

pub adding-preserved : goal.adding-preserved
adding-preserved c = λ q asked.
    let program = program_of c.program-program.result.now in
    let locals = locals_of c.items-locals.result.now in
    let n = c.args.problem.now.query in
    let rest = outs_of_runs (drop (c.adding.run-index + 1) c.args.runs.now) in
    c.in_ok-push_run.ensures n rest
    ∙ ap (λ os. report_with program n locals c.adding.builder os) (next_run c.args.runs.now c.adding.run-index c.run-item.result c.adding-test.true c.run-item.is)
    ∙ c.adding.invariant q asked

pub returns : goal.returns
returns c =
    let program = program_of c.program-program.result.now in
    let locals = locals_of c.items-locals.result.now in
    let n = c.args.problem.now.query in
    IfOk-weaker c.finish.result _ _
    (λ v made q asked. made program locals
    ∙ ap (λ os. report_with program n locals c.adding.builder os) (no_run_left c.args.runs.now c.adding.run-index c.adding-test.false)
    ∙ c.adding.invariant q asked)
    c.finish.ensures
