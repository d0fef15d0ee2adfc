use Rattle.std.proofs.Common.{◌∙◌, [], map, refl, ap, ap₂}
use Rattle.ap_defs.specs.Permutations.{disagreement}
use Rattle.ap_defs.specs.Unification.{fresh_for, replace}
use Rattle.ap_store.specs.Views.{meaning_in}
use Rattle.ap_rules.proofs.SuspensionLemmas.{one_differs}
use Rattle.ap_rules.proofs.moves.one_variable.Goals as goal

pub returns-clause-rule : goal.returns-clause-rule
returns-clause-rule c =
    let x = c.args.x in
    ap (λ l. replace [] (map (fresh_for x) l)) (c.in_ok-names.ensures ∙ ap₂ disagreement c.deref.ensures.value c.deref-2.ensures.value)
    ∙ one_differs (meaning_in c.args.store.now c.args.left) (meaning_in c.args.store.now c.args.right) c.in_ok-p.p.items c.in_ok-q.q.items x x c.in_ok-p.ensures.all c.in_ok-q.ensures.all refl

pub returns-clause-fit : goal.returns-clause-fit
returns-clause-fit c = c.requires.left.0
