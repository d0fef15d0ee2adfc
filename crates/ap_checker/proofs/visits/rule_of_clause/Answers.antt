use Rattle.std.proofs.Common.{List, subst, sym}
use Rattle.ap_defs.specs.declared.goals.Constructor.{Constructor}
use Rattle.ap_judge.specs.Typings.{AreTypesKnown}
use Rattle.ap_checker.proofs.visits.rule_of_clause.Goals as goal

pub terms_fit-requires : goal.terms_fit-requires
terms_fit-requires c =
    subst (λ (cs : List Constructor). AreTypesKnown c.args.used.now.given.terms.now cs c.args.answer.now.vars c.args.typed.now) (sym c.items-constructors.ensures) c.requires.typed

pub returns-then-not-branch-2-clause-typed : goal.returns-then-not-branch-2-clause-typed
returns-then-not-branch-2-clause-typed c =
    subst (λ (cs : List Constructor). AreTypesKnown c.args.used.now.given.terms.now cs c.args.answer.now.vars c.terms_fit.new.typed) c.items-constructors.ensures c.in_ok-terms_fit.ensures.typed

pub returns-then-not-branch-3-clause-typed : goal.returns-then-not-branch-3-clause-typed
returns-then-not-branch-3-clause-typed c =
    subst (λ (cs : List Constructor). AreTypesKnown c.args.used.now.given.terms.now cs c.args.answer.now.vars c.terms_fit.new.typed) c.items-constructors.ensures c.in_ok-terms_fit.ensures.typed

pub returns-clause-typed : goal.returns-clause-typed
returns-clause-typed c =
    subst (λ (cs : List Constructor). AreTypesKnown c.args.used.now.given.terms.now cs c.args.answer.now.vars c.terms_fit.new.typed) c.items-constructors.ensures c.in_ok-terms_fit.ensures.typed
