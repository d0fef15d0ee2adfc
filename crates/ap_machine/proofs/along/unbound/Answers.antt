use Rattle.std.proofs.Common.{ap, ◌∙◌}
use Rattle.ap_defs.specs.Terms.{susp}
use Rattle.ap_machine.proofs.AnswerLemmas.{closed_unbound}
use Rattle.ap_machine.proofs.along.unbound.Goals as goal

pub returns-in_ok-share-in-None : goal.returns-in_ok-share-in-None
returns-in_ok-share-in-None c = ap (λ p. susp p c.args.x) (c.in_ok-share-in-None.ensures ∙ c.requires) ∙ closed_unbound c.args.store.now c.args.x c.in-None.ensures
