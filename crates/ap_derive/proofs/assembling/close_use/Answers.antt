use Rattle.std.proofs.Common.{◌∙◌, ap, length, map, subst, sym}
use Rattle.ap_machine.specs.Views.{state_in}
use Rattle.ap_shared.specs.Shared.{AreLinesBelow, shared_at}
use Rattle.ap_derive.specs.Closing.{closing_terms}
use Rattle.ap_derive.proofs.NodeLemmas.{vars_closed}
use Rattle.ap_derive.proofs.assembling.close_use.Goals as goal

pub returns-clause-below : goal.returns-clause-below
returns-clause-below c = subst (AreLinesBelow (length (closing_terms c.close_each.new.closing))) (sym c.of-terms.ensures) c.in_ok-close_each.ensures.below

pub returns-clause-terms : goal.returns-clause-terms
returns-clause-terms c =
    ap (map (shared_at (closing_terms c.close_each.new.closing))) c.of-terms.ensures ∙ c.in_ok-close_each.ensures.lines ∙ sym (vars_closed (state_in c.args.store.now) c.args.vars.now)
