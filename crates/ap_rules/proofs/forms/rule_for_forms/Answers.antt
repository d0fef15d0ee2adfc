use Rattle.std.proofs.Common.{◌≡◌, ◌∙◌, sym, ap₂, subst}
use Rattle.ap_defs.specs.Unification.{rule}
use Rattle.ap_perm.specs.Closures.{closure_term}
use Rattle.ap_store.specs.Heads.{HasForm}
use Rattle.ap_store.specs.Views.{bindings_of, meaning_in}
use Rattle.ap_rules.proofs.SuspensionLemmas.{form_unbound}
use Rattle.ap_rules.proofs.WorkLemmas.{if_ok, opened_meets}
use Rattle.ap_rules.specs.Work.{opened_under}
use Rattle.ap_rules.proofs.forms.rule_for_forms.Goals as goal

pub rule_for_opened-requires-clause-left_form : goal.rule_for_opened-requires-clause-left_form
rule_for_opened-requires-clause-left_form c = subst HasForm (sym c.in_ok-opened_left.ensures) c.requires.left_form

pub rule_for_opened-requires-clause-right_form : goal.rule_for_opened-requires-clause-right_form
rule_for_opened-requires-clause-right_form c = subst HasForm (sym c.in_ok-opened_right.ensures) c.requires.right_form

pub returns-clause-rule : goal.returns-clause-rule
returns-clause-rule c =
    let s = bindings_of c.args.store.now in
    let t = closure_term c.args.left in
    let u = closure_term c.args.right in
    let l : meaning_in c.args.store.now c.args.left ≡ opened_under s c.in_ok-opened_left.opened_left =
    opened_meets c.in_ok-opened_left.opened_left t c.in_ok-opened_left.ensures s (form_unbound s t c.requires.left_form) in
    let r : meaning_in c.args.store.now c.args.right ≡ opened_under s c.in_ok-opened_right.opened_right =
    opened_meets c.in_ok-opened_right.opened_right u c.in_ok-opened_right.ensures s (form_unbound s u c.requires.right_form) in
    if_ok c.rule_for_opened.result (λ m h. h ∙ ap₂ rule (sym l) (sym r)) c.rule_for_opened.ensures.rule
