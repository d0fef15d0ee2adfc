use Rattle.ap_answers.proofs.QueryLemmas.{locals_there}
use Rattle.ap_answers.proofs.printing.locals_in.Goals as goal

pub returns-clause-locals : goal.returns-clause-locals
returns-clause-locals c =
    rw c.items-2.ensures (locals_there c.args.program.now c.args.query c.index-items-query.result c.requires.from_one c.requires.exists
    (rw (c.items.ensures, c.program.ensures.same) at c.index-items-query.is))
