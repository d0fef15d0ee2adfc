use Rattle.ap_defs.specs.Types.{type_of}
use Rattle.ap_types.proofs.QuestionLemmas.{inhabited_answer}
use Rattle.ap_types.proofs.answers.inhabited.Goals as goal

pub returns : goal.returns
returns c =
    inhabited_answer c.args.sig.now.constructors c.items.result.now c.in_ok-table.table.items c.as_slice.result.now (type_of c.args.ty.now) c.in_ok-answer.answer
    c.items.ensures c.as_slice.ensures.value c.in_ok-table.ensures c.in_ok-answer.ensures
