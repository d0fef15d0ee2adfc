use Rattle.std.proofs.Common.{◌≡◌, ◌∙◌, sym, ap₂, subst}
use Rattle.ap_defs.specs.Substitution.{under}
use Rattle.ap_defs.specs.Unification.{rule}
use Rattle.ap_perm.specs.Closures.{closure_term}
use Rattle.ap_store.specs.Heads.{HasForm}
use Rattle.ap_store.specs.Views.{bindings_of}
use Rattle.ap_rules.proofs.SuspensionLemmas.{form_there}
use Rattle.ap_rules.proofs.WorkLemmas.{if_ok}
use Rattle.ap_rules.proofs.forms.rule_for_parts.Goals as goal

pub rule_for_forms-requires-clause-left_form : goal.rule_for_forms-requires-clause-left_form
rule_for_forms-requires-clause-left_form c =
    let s = bindings_of c.args.store.now in
    let t = closure_term c.in_ok-left.left in
    let f : HasForm (under s t) = subst HasForm (sym c.in_ok-left.ensures.term) c.requires.left_form in
    form_there s t c.in_ok-left.ensures.head f

pub rule_for_forms-requires-clause-right_form : goal.rule_for_forms-requires-clause-right_form
rule_for_forms-requires-clause-right_form c =
    let s = bindings_of c.args.store.now in
    let t = closure_term c.in_ok-right.right in
    let f : HasForm (under s t) = subst HasForm (sym c.in_ok-right.ensures.term) c.requires.right_form in
    form_there s t c.in_ok-right.ensures.head f

pub returns-clause-rule : goal.returns-clause-rule
returns-clause-rule c = if_ok c.rule_for_forms.result (λ m h. h ∙ ap₂ rule c.in_ok-left.ensures.term c.in_ok-right.ensures.term) c.rule_for_forms.ensures.rule
