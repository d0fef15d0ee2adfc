use Rattle.std.proofs.Common.{List, filter, sym, ap, ◌∙◌}
use Rattle.ap_defs.specs.Lines.{name_texts}
use Rattle.ap_defs.specs.Types.{locals_of}
use Rattle.ap_defs.specs.declared.goals.Local.{Local}
use Rattle.ap_program.specs.FreeLocals.{is_free_var}
use Rattle.ap_stream.proofs.ShownLemmas.{heading_of_vars, list_none}
use Rattle.ap_stream.proofs.report.stream_report.Goals as goal

pub report_by-requires-2-clause-heading : goal.report_by-requires-2-clause-heading
report_by-requires-2-clause-heading c =
    heading_of_vars (locals_of c.deref-4.result.now) (locals_of c.deref-3.result.now)
    (ap locals_of c.deref-4.ensures.value ∙ c.in_ok-vars.ensures ∙ ap (λ (ls : List Local). filter is_free_var (locals_of ls)) (c.deref-2.ensures.value ∙ sym c.deref-3.ensures.value))
    (ap (λ (ls : List Local). name_texts (locals_of ls)) (c.deref-3.ensures.value ∙ sym c.deref.ensures.value)
    ∙ sym c.in_ok-names.ensures ∙ sym c.as_slice.ensures.value ∙ list_none c.as_slice.result.now (sym c.is_empty.ensures ∙ c.if-not-is_empty.false))
