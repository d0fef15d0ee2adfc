use Rattle.std.proofs.Common.{◌≡◌, ◌-◌, Some, ap, ◌∙◌}
use Rattle.std.specs.Prelude.{map, slice_get}
use Rattle.std.proofs.lemmas.Result.{IfOk-weaker}
use Rattle.ap_defs.specs.Answers.{query_outs}
use Rattle.ap_defs.specs.Goals.{NominalQuery, program_of}
use Rattle.ap_defs.specs.Lines.{query_lines}
use Rattle.ap_defs.specs.Types.{locals_of}
use Rattle.ap_defs.specs.declared.goals.Program.{Program}
use Rattle.ap_defs.specs.declared.terms.Term.{Term}
use Rattle.ap_backchain.specs.Ends.{without_path}
use Rattle.ap_backchain.specs.Problems.{program_of_problem, queries_in}
use Rattle.ap_machine.specs.Asking.{answer_alone, answering_of}
use Rattle.ap_paths.specs.Limits.{part}
use Rattle.ap_search.specs.Records.{Answering}
use Rattle.ap_stream.specs.Builders.{report_with}
use Rattle.ap_stream.specs.Coming.{outs_coming_by}
use Rattle.ap_stream.proofs.ShownLemmas.{heading_suffices}
use Rattle.ap_stream.proofs.report.report_by.Goals as goal

pub returns-in-Ok : goal.returns-in-Ok
returns-in-Ok c =
    let asked_of = c.args.problem.now in
    let p = program_of_problem asked_of in
    let n = asked_of.query in
    let program = program_of c.program-program.result.now in
    let heading = locals_of c.args.heading.now in
    let locals = locals_of c.args.locals.now in
    let s = c.in_ok-search.search in
    let os = outs_coming_by (answering_of c.in_ok-asked.asked) s in
    let begins : (q : NominalQuery) → slice_get (queries_in asked_of) (n - 1) ≡ Some q
    → report_with program n heading c.new-builder.result os ≡ query_lines p n q.locals (map without_path (part c.args.limit (query_outs p.clauses asked_of.depth q))) =
    λ q asked.
    c.new-builder.ensures program n heading os
    ∙ ap (λ (x : Program Term). query_lines (program_of x) n heading os) c.program-program.ensures.same
    ∙ heading_suffices p heading locals c.requires.heading n os
    ∙ ap (λ (f : Answering). query_lines p n locals (outs_coming_by f s)) c.in_ok-asked.ensures
    ∙ ap (λ ls. query_lines p n ls (outs_coming_by (answer_alone ls) s)) (c.requires.shown q asked)
    ∙ c.in_ok-search.ensures.lines q n asked in
    IfOk-weaker c.finish.result _ _ (λ v made q asked. made program heading ∙ c.in-Ok.ensures n ∙ begins q asked) c.finish.ensures
