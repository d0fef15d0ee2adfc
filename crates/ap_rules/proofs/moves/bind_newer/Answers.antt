use Rattle.std.proofs.Common.{◌≡◌, ◌<◌, ◌∙◌, sym, ap, subst, true≢false, arith}
use Rattle.ap_defs.specs.Permutations.{inverse}
use Rattle.ap_defs.specs.Renaming.{AreSwapsBelow}
use Rattle.ap_defs.specs.Terms.{act_term}
use Rattle.ap_defs.specs.Unification.{bind}
use Rattle.ap_store.specs.Views.{meaning_in, present}
use Rattle.ap_rules.proofs.SuspensionLemmas.{left_newer, other_absent, right_newer}
use Rattle.ap_rules.proofs.WorkLemmas.{if_ok}
use Rattle.ap_rules.proofs.moves.bind_newer.Goals as goal

pub bind_to-requires-clause-unbound : goal.bind_to-requires-clause-unbound
bind_to-requires-clause-unbound c = c.requires.newer.0

pub bind_to-requires-clause-swaps : goal.bind_to-requires-clause-swaps
bind_to-requires-clause-swaps c = subst (AreSwapsBelow (present c.args.store.now).next) (sym c.deref.ensures.value) c.in_ok-q.ensures.below

pub bind_to-requires-clause-absent : goal.bind_to-requires-clause-absent
bind_to-requires-clause-absent c =
    let (l, m) = c.requires.older in
    let (p, e) = m in
    let less = c.requires.numbers in
    other_absent (meaning_in c.args.store.now c.args.older) p c.args.x c.args.y e (λ (i : c.args.x.num ≡ c.args.y.num). omega (arith, i, less))

pub bind_to-requires-clause-no_vars : goal.bind_to-requires-clause-no_vars
bind_to-requires-clause-no_vars c = λ h. absurd (true≢false (sym h))

pub returns-clause-left : goal.returns-clause-left
returns-clause-left c =
    let (l, m) = c.requires.older in
    let (p, e) = m in
    let t = meaning_in c.args.store.now c.args.older in
    let here = right_newer t (meaning_in c.args.store.now c.args.newer) p c.in_ok-q.q.items c.args.x c.args.y e c.in_ok-q.ensures.all c.requires.numbers in
    if_ok c.bind_to.result (λ m h. h ∙ ap (λ q. bind c.args.y (act_term (inverse q) t)) c.deref.ensures.value ∙ here) c.bind_to.ensures.rule

pub returns-clause-right : goal.returns-clause-right
returns-clause-right c =
    let (l, m) = c.requires.older in
    let (p, e) = m in
    let t = meaning_in c.args.store.now c.args.older in
    let here = left_newer (meaning_in c.args.store.now c.args.newer) t c.in_ok-q.q.items p c.args.y c.args.x c.in_ok-q.ensures.all e c.requires.numbers in
    if_ok c.bind_to.result (λ m h. h ∙ ap (λ q. bind c.args.y (act_term (inverse q) t)) c.deref.ensures.value ∙ here) c.bind_to.ensures.rule
