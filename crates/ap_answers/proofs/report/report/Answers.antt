use Rattle.std.proofs.Common.{map}
use Rattle.ap_defs.specs.Types.{locals_of}
use Rattle.ap_defs.specs.Goals.{program_of}
use Rattle.ap_defs.specs.Answers.{outs_of}
use Rattle.ap_defs.specs.Lines.{line_text, lines_of, totals_text}
use Rattle.ap_answers.proofs.LineLemmas.{report_written}
use Rattle.ap_answers.proofs.report.report.Goals as goal

pub returns : goal.returns
returns c =
    report_written (map (line_text (program_of c.args.program.now) (locals_of c.args.locals.now)) (lines_of (outs_of c.args.outs.now))) (totals_text c.args.query (outs_of c.args.outs.now))
    c.write_lines.new.out.items c.write_totals.new.out.items (rw c.new-out.ensures.items at c.in_ok-write_lines.ensures) c.in_ok-write_totals.ensures
