use Rattle.ap_defs.specs.Types.{locals_of}
use Rattle.ap_defs.specs.Answers.{answer_of}
use Rattle.ap_defs.specs.Goals.{program_of}
use Rattle.ap_defs.specs.Lines.{shown_in}
use Rattle.ap_answers.proofs.SoundlyShownLemmas.{soundly_shown}
use Rattle.ap_values.proofs.shown.canonical.Goals as goal

pub returns-clause-shown : goal.returns-clause-shown
returns-clause-shown c =
    rw c.locals_in-locals.ensures.locals at (c.in_ok-shown.ensures (shown_in (locals_of c.locals_in-locals.result.now) (answer_of c.args.answer.now)) c.in_ok-display.ensures)

pub returns-clause-sound : goal.returns-clause-sound
returns-clause-sound c =
    soundly_shown (program_of c.args.program.now) c.locals_in-locals.ensures.restricted.typed c.args.query (answer_of c.args.answer.now) _
    (rw c.locals_in-locals.ensures.locals at (c.in_ok-shown.ensures (shown_in (locals_of c.locals_in-locals.result.now) (answer_of c.args.answer.now)) c.in_ok-display.ensures))
