use Rattle.std.proofs.Common.{◌≡◌, ◌∙◌, sym, ap, subst}
use Rattle.ap_defs.specs.Permutations.{inverse}
use Rattle.ap_defs.specs.Renaming.{AreSwapsBelow}
use Rattle.ap_defs.specs.Terms.{act_term}
use Rattle.ap_defs.specs.Unification.{rule, unless_occurs}
use Rattle.ap_store.specs.Views.{meaning_in, present}
use Rattle.ap_rules.proofs.SuspensionLemmas.{rule_binds_left, rule_binds_right}
use Rattle.ap_rules.proofs.WorkLemmas.{if_ok}
use Rattle.ap_rules.proofs.forms.rule_for_one.Goals as goal

pub bind_unless_occurs-requires-clause-unbound : goal.bind_unless_occurs-requires-clause-unbound
bind_unless_occurs-requires-clause-unbound c = c.requires.head.0

pub bind_unless_occurs-requires-clause-swaps : goal.bind_unless_occurs-requires-clause-swaps
bind_unless_occurs-requires-clause-swaps c = subst (AreSwapsBelow (present c.args.store.now).next) (sym c.deref.ensures.value) c.in_ok-p.ensures.below

pub returns-clause-left : goal.returns-clause-left
returns-clause-left c =
    let x = c.args.x in
    let u = meaning_in c.args.store.now c.args.c in
    let there = ap (λ t. rule t u) c.in_ok-p.ensures.all ∙ rule_binds_left c.in_ok-p.p.items x u c.requires.form in
    if_ok c.bind_unless_occurs.result (λ m h. h ∙ ap (λ q. unless_occurs x u (act_term (inverse q) u)) c.deref.ensures.value ∙ sym there) c.bind_unless_occurs.ensures.rule

pub returns-clause-right : goal.returns-clause-right
returns-clause-right c =
    let x = c.args.x in
    let u = meaning_in c.args.store.now c.args.c in
    let there = ap (rule u) c.in_ok-p.ensures.all ∙ rule_binds_right u c.in_ok-p.p.items x c.requires.form in
    if_ok c.bind_unless_occurs.result (λ m h. h ∙ ap (λ q. unless_occurs x u (act_term (inverse q) u)) c.deref.ensures.value ∙ sym there) c.bind_unless_occurs.ensures.rule
