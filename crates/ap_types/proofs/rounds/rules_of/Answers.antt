use Rattle.std.proofs.Common.{[], map, List, subst, ap, ◌∙◌}
use Rattle.ap_defs.specs.Types.{type_of}
use Rattle.ap_defs.specs.declared.terms.Ty.{Ty}
use Rattle.ap_types.specs.declared.least.Rule.{Rule}
use Rattle.ap_types.specs.Inhabited.{all_inhabited}
use Rattle.ap_types.specs.Rules.{all_are_in, Adds}
use Rattle.ap_types.proofs.RuleLemmas.{adds_same}
use Rattle.ap_types.proofs.rounds.rules_of.Goals as goal

pub returns-in_ok-add_rule-in-Inhabited : goal.returns-in_ok-add_rule-in-Inhabited
returns-in_ok-add_rule-in-Inhabited c =
    let gives = c.args.constructor.now.result in
    let args = c.args.constructor.now.args in
    let new = c.add_rule.new.rules.items in
    let needs = c.in_ok-needs-in-Inhabited.needs.items in
    let added = subst (λ (old : List Rule). Adds old new (λ p. all_are_in p needs) gives) c.new-rules.ensures.items c.in_ok-add_rule-in-Inhabited.ensures in
    rw c.in-Inhabited.is
    (adds_same [] new (λ p. all_are_in p needs) (λ p. all_inhabited p (map type_of args)) gives
    (λ p. c.in_ok-needs-in-Inhabited.ensures p ∙ ap (λ (ts : List Ty). all_inhabited p (map type_of ts)) c.items.ensures)
    added)

pub returns-in-Holds : goal.returns-in-Holds
returns-in-Holds c = rw c.in-Holds.is (rw c.items-in-Holds.ensures at c.holding_rules.ensures)
