-- What is written so far, and the lines of the outputs that are left, are all.
use Rattle.std.proofs.Common.{◌≡◌, ◌++◌, map, length}
use Rattle.ap_defs.specs.Types.{locals_of}
use Rattle.ap_defs.specs.Goals.{program_of}
use Rattle.ap_defs.specs.Answers.{outs_of}
use Rattle.ap_defs.specs.Lines.{ended, lines_of, line_text}
use Rattle.ap_answers.proofs.report.write_lines.Given as goal

abbrev pub invariant-loop-rest : goal.invariant-loop-rest
invariant-loop-rest l =
    l.out.items ++ ended (map (line_text (program_of l.program) (locals_of l.locals)) (lines_of (outs_of l.rest)))
    ≡ l.fn.out.items ++ ended (map (line_text (program_of l.program) (locals_of l.locals)) (lines_of (outs_of l.outs)))

abbrev pub decreases-loop-rest : goal.decreases-loop-rest
decreases-loop-rest l = length l.rest
