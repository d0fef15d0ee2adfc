use Rattle.std.proofs.Common.{◌+◌, length, ap, ◌∙◌}
use Rattle.std.specs.Prelude.{min}
use Rattle.ap_inputs.proofs.Cutting.{items-first}
use Rattle.ap_inputs.proofs.items.first_item.Goals as goal

pub returns-clause-item : goal.returns-clause-item
returns-clause-item c = items-first c.args.tokens.now c.min-count.result c.requires (c.min-count.ensures ∙ ap (λ p. min (p + 1) (length c.args.tokens.now)) c.dot_place.ensures.value)
