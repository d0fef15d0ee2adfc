use Rattle.ap_defs.specs.Types.{type_of}
use Rattle.ap_types.proofs.QuestionLemmas.{holds_answer}
use Rattle.ap_types.proofs.answers.may_hold.Goals as goal

pub returns : goal.returns
returns c =
    holds_answer c.args.sig.now.constructors c.items.result.now c.in_ok-table.table.items c.as_slice.result.now (type_of c.args.ty.now) c.args.sort c.in_ok-answer.answer
    c.items.ensures c.as_slice.ensures.value c.in_ok-table.ensures c.in_ok-answer.ensures
