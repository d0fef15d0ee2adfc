use Rattle.std.proofs.Common.{ap, sym, ◌∙◌}
use Rattle.ap_defs.specs.Unification.{has_var}
use Rattle.ap_store.specs.Founds.{bare_term}
use Rattle.ap_store.proofs.MentionLemmas.{not_true, some_vars}
use Rattle.ap_store.proofs.beside.is_beside.Goals as goal

pub returns-in-Some : goal.returns-in-Some
returns-in-Some c =
    let t = bare_term c.args.first in
    let x = c.args.x in
    let g = some_vars t _ c.in-Some.vars c.in-Some.is c.in_ok-own_vars.ensures in
    λ h. c.is_unmentioned.ensures t c.if-not-is_unmentioned.false (sym (g x) ∙ ap (has_var x) (sym c.deref.ensures.value) ∙ sym c.is_among.ensures ∙ not_true c.is_among.result h)
