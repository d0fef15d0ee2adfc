use Rattle.std.proofs.Common.{◌≡◌, ℕ, length}
use Rattle.ap_defs.specs.Goals.{program_of}
use Rattle.ap_defs.specs.Types.{locals_of}
use Rattle.ap_machine.specs.Asking.{answering_of}
use Rattle.ap_stream.specs.Builders.{report_with}
use Rattle.ap_stream.specs.Coming.{IsSearching, outs_coming_by}
use Rattle.ap_stream.proofs.report.push_outputs.Given as goal

-- the report with the outputs to come stays the same
abbrev pub invariant-searching : goal.invariant-searching
invariant-searching l = record {
  searching : IsSearching l.search;
  report : (query : ℕ) → report_with (program_of l.program) query (locals_of l.locals) l.builder (outs_coming_by (answering_of l.asked) l.search)
      ≡ report_with (program_of l.program) query (locals_of l.locals) l.fn.builder (outs_coming_by (answering_of l.asked) l.fn.search);
}

abbrev pub decreases-searching : goal.decreases-searching
decreases-searching l = length (outs_coming_by (answering_of l.asked) l.search)
