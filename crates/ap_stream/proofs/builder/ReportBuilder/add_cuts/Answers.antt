use Rattle.std.proofs.Common.{◌≡◌, ℕ, ◌+◌, ◌++◌, ◌∙◌, [], replicate, ap, sym, arith}
use Rattle.ap_defs.specs.Answers.{cut}
use Rattle.ap_defs.specs.Lines.{count_of, is_cut, is_found, is_stuck}
use Rattle.ap_stream.specs.Builders.{built_text, report_with, totals_by}
use Rattle.ap_stream.proofs.LineLemmas.{cuts_cut, cuts_found, cuts_stuck}
use Rattle.ap_stream.proofs.builder.ReportBuilder.add_cuts.Goals as goal

-- none follow
pub returns-then-more-eq0 : goal.returns-then-more-eq0
returns-then-more-eq0 c = λ program query locals os.
    ap (λ (n : ℕ). report_with program query locals c.args.self.now (replicate n (cut []) ++ os)) (sym c.if-more-eq0.true)

pub returns : goal.returns
returns c = λ program query locals os.
    let b = c.args.self.now in
    let more = c.args.more in
    let all = replicate more (cut []) ++ os in
    let text = λ (n : ℕ) (m : ℕ) (s : ℕ). built_text program locals c.with_cuts.new.out.items c.in_ok-self-2.field-0 os (totals_by query n m s) in
    let one = c.in_ok-self.ensures in
    let found : b.answers + count_of is_found os ≡ b.answers + count_of is_found all = ap (λ n. b.answers + n) (sym (cuts_found more os)) in
    let cuts : c.in_ok-self.field-0 + count_of is_cut os ≡ b.cuts + count_of is_cut all = (let e = cuts_cut more os in omega (arith, one, e)) in
    let stuck : b.stuck + count_of is_stuck os ≡ b.stuck + count_of is_stuck all = ap (λ n. b.stuck + n) (sym (cuts_stuck more os)) in
    ap (λ n. text n (c.in_ok-self.field-0 + count_of is_cut os) (b.stuck + count_of is_stuck os)) found
    ∙ ap (λ n. text (b.answers + count_of is_found all) n (b.stuck + count_of is_stuck os)) cuts
    ∙ ap (λ n. text (b.answers + count_of is_found all) (b.cuts + count_of is_cut all) n) stuck
    ∙ c.in_ok-self-2.ensures program locals os (totals_by query (b.answers + count_of is_found all) (b.cuts + count_of is_cut all) (b.stuck + count_of is_stuck all))
