use Rattle.ap_defs.specs.Types.{locals_of}
use Rattle.ap_defs.specs.Answers.{answer_of}
use Rattle.ap_answers.proofs.DisplayLemmas.{shows}
use Rattle.ap_answers.proofs.shown.display_of.Goals as goal

pub returns : goal.returns
returns c =
    shows (locals_of c.args.locals.now) (answer_of c.args.answer.now) _
    (rw c.items.ensures at c.in_ok-binds.ensures)
    (rw c.as_slice.ensures.value at c.in_ok-names.ensures.names)
    (rw c.as_slice.ensures.value at c.in_ok-names.ensures.vars)
    (rw c.items-2.ensures at c.in_ok-conds.ensures)
