use Rattle.std.proofs.Common.{◌≡◌, suc, ◌+◌, ◌++◌, ◌∙◌, ap, arith}
use Rattle.ap_defs.specs.Answers.{answer_of}
use Rattle.ap_defs.specs.Goals.{program_of}
use Rattle.ap_defs.specs.Lines.{count_of, is_cut, is_found, is_stuck}
use Rattle.ap_defs.specs.Types.{locals_of}
use Rattle.ap_stream.specs.Builders.{built_text, line_of_pending, totals_by}
use Rattle.ap_stream.specs.declared.builder.PendingRun.TheVariants as runs
use Rattle.ap_stream.proofs.LineLemmas.{answer_written}
use Rattle.ap_stream.proofs.builder.ReportBuilder.add_answer.Goals as goal

pub returns : goal.returns
returns c = λ query path os.
    let b = c.args.self.now in
    let program = program_of c.args.program.now in
    let locals = locals_of c.args.locals.now in
    let cuts = b.cuts + count_of is_cut os in
    let stuck = b.stuck + count_of is_stuck os in
    let one = c.in_ok-self.ensures in
    let more : c.in_ok-self.field-0 + count_of is_found os ≡ b.answers + suc (count_of is_found os) = omega (arith, one) in
    ap (λ n. built_text program locals c.push.new.self.items (runs.Cuts 0) os (totals_by query n cuts stuck)) more
    ∙ answer_written program locals b.run path (answer_of c.args.answer.now) os b.bytes.items c.write_run.new.out.items c.write_answer.new.out.items c.push.new.self.items
    (totals_by query (b.answers + suc (count_of is_found os)) cuts stuck) (c.in_ok-write_run.ensures ∙ ap (λ xs. xs ++ line_of_pending b.run) c.reserve.ensures.items) c.in_ok-write_answer.ensures c.in_ok-push.ensures.items
