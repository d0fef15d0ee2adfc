use Rattle.std.proofs.Common.{[], sym, ap}
use Rattle.ap_defs.specs.Answers.{with_type}
use Rattle.ap_machine.proofs.AnswerLemmas.{no_kind}
use Rattle.ap_machine.proofs.answers.typed.Goals as goal

pub returns-else-x-next : goal.returns-else-x-next
returns-else-x-next c = sym (ap (λ k. with_type c.args.x k []) (no_kind c.args.store.now c.args.x.num (rw c.next.ensures at c.if-x-next.false)))
