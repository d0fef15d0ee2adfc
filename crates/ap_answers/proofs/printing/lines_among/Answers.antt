use Rattle.ap_answers.proofs.printing.lines_among.Goals as goal

pub returns : goal.returns
returns c = rw (c.locals_in-locals.ensures.locals, c.program.ensures.same) at c.report.ensures
