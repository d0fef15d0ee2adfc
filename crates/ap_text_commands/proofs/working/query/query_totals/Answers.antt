use Rattle.std.proofs.Common.{◌≡◌, rules, sym, subst, ap, ap₂, ◌∙◌}
use Rattle.ap_defs.specs.Answers.{outs_of}
use Rattle.ap_defs.specs.Goals.{program_of}
use Rattle.ap_defs.specs.Lines.{query_lines}
use Rattle.ap_defs.specs.declared.goals.Program.{Program}
use Rattle.ap_defs.specs.declared.terms.Term.{Term}
use Rattle.ap_answers.specs.Queries.{query_locals}
use Rattle.ap_backchain.specs.Problems.{program_of_problem}
use Rattle.ap_totals.specs.Sums.{output_totals}
use Rattle.ap_text_commands.proofs.SumLemmas.{of_one_query}
use Rattle.ap_text_commands.proofs.working.query.query_totals.Goals as goal

pub returns-clause-made : goal.returns-clause-made
returns-clause-made g c =
    let asked = c.args.problem.now in
    let lines = λ (p : Program Term). query_lines (program_of p) asked.query (query_locals (program_of p) asked.query) (outs_of c.deref.result.now) in
    of_one_query (program_of_problem asked) asked.depth asked.query (outs_of c.deref.result.now) c.in_ok-report.report.items c.of_query.result
    c.requires.query.0 (λ q found. rw c.deref.ensures.value (c.in_ok-outs.ensures q found))
    (subst (λ (p : Program Term). c.in_ok-report.report.items ≡ lines p) c.restricted.ensures c.in_ok-report.ensures)
    (c.of_query.ensures.counts ∙ ap₂ output_totals (ap outs_of (c.deref-2.ensures.value ∙ sym c.deref.ensures.value)) (c.len.ensures ∙ search rules))
