use Rattle.ap_defs.specs.Types.{locals_of}
use Rattle.ap_defs.specs.Answers.{answer_of}
use Rattle.ap_defs.specs.Lines.{shown_in}
use Rattle.ap_answers.proofs.answers.write_with_bindings.Goals as goal

pub returns : goal.returns
returns c =
    let s = shown_in (locals_of c.args.locals.now) (answer_of c.args.answer.now) in
    let spelled = c.in_ok-by.ensures s c.in_ok-shown.ensures.names c.in_ok-shown.ensures.vars in
    rw (c.as_slice-binds.ensures.value, c.as_slice-conds.ensures.value, spelled, c.in_ok-shown.ensures.binds, c.in_ok-shown.ensures.conds) at c.write_shown.ensures
