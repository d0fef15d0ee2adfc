use Rattle.std.proofs.Common.{sym, ◌∙◌}
use Rattle.ap_answers.proofs.TextLemmas.{bare_place}
use Rattle.ap_answers.proofs.leaves.is_bare.Goals as goal

pub returns : goal.returns
returns c = λ h. bare_place c.args.constructor.now c.items.result.now c.items.ensures (sym c.is_empty.ensures ∙ h)
