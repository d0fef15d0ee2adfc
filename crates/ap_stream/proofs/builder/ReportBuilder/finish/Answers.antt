use Rattle.std.proofs.Common.{◌≡◌, ℕ, ◌+◌, ◌++◌, [], ◌∙◌, ap, sym, arith}
use Rattle.ap_stream.specs.Builders.{built_text, totals_by}
use Rattle.ap_stream.proofs.LineLemmas.{ended_totals, totals_written}
use Rattle.ap_stream.proofs.builder.ReportBuilder.finish.Goals as goal

no_more : (n : ℕ) → n ≡ n + 0
no_more n = omega arith

pub returns : goal.returns
returns c = λ program locals.
    let b = c.args.self in
    let query = c.args.query in
    let text = λ (n : ℕ) (m : ℕ) (s : ℕ). built_text program locals b.bytes.items b.run [] (totals_by query n m s) in
    totals_written program locals b.run b.bytes.items c.write_run.new.out.items c.write_totals.new.out.items (totals_by query b.answers b.cuts b.stuck) c.in_ok-write_run.ensures
    (c.in_ok-write_totals.ensures ∙ ap (λ w. c.write_run.new.out.items ++ w) (sym (ended_totals query b.answers b.cuts b.stuck)))
    ∙ ap (λ n. text n b.cuts b.stuck) (no_more b.answers)
    ∙ ap (λ n. text (b.answers + 0) n b.stuck) (no_more b.cuts)
    ∙ ap (λ n. text (b.answers + 0) (b.cuts + 0) n) (no_more b.stuck)
