use Rattle.ap_defs.specs.Types.{locals_of}
use Rattle.ap_defs.specs.Goals.{program_of}
use Rattle.ap_defs.specs.Lines.{line_text}
use Rattle.ap_answers.proofs.LineLemmas.{lines_further}
use Rattle.ap_answers.proofs.report.write_lines.Goals as goal

pub loop-rest-preserved : goal.loop-rest-preserved
loop-rest-preserved c =
    lines_further (line_text (program_of c.args.program.now) (locals_of c.args.locals.now)) c.loop-rest.rest.now _ c.in_ok-count.count c.loop-rest.out.items c.write_line.new.out.items _
    c.in_ok-count.ensures c.split_at.ensures.back c.loop-rest.invariant
