use Rattle.std.proofs.Common.{ap, sym, ◌∙◌}
use Rattle.std.specs.Prelude.{Some}
use Rattle.ap_store.specs.Slots.{value_term}
use Rattle.ap_theory.proofs.TermLemmas.{act_term_none}
use Rattle.ap_store.proofs.slots.lent_value.Goals as goal

pub returns-in-Plain : goal.returns-in-Plain
returns-in-Plain c = ap value_term c.in-Plain.is ∙ ap Some (sym (act_term_none _))

pub returns-in-Ground : goal.returns-in-Ground
returns-in-Ground c = ap value_term c.in-Ground.is ∙ ap Some (sym (act_term_none _))
