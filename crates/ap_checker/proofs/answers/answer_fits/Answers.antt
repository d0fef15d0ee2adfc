use Rattle.std.proofs.Common.{List, subst, sym}
use Rattle.ap_defs.specs.declared.goals.Constructor.{Constructor}
use Rattle.ap_judge.specs.Typings.{AreTypesKnown}
use Rattle.ap_checker.proofs.answers.answer_fits.Goals as goal

pub terms_fit-requires : goal.terms_fit-requires
terms_fit-requires c = subst (λ (cs : List Constructor). AreTypesKnown c.args.terms.now cs c.args.indexed.now.vars c.args.typed.now) (sym c.items-constructors.ensures) c.requires.typed

pub returns-then-fit-clause-typed : goal.returns-then-fit-clause-typed
returns-then-fit-clause-typed c = subst (λ (cs : List Constructor). AreTypesKnown c.args.terms.now cs c.args.indexed.now.vars c.terms_fit.new.typed) c.items-constructors.ensures c.in_ok-fit.ensures.typed

pub returns-else-fit-clause-typed : goal.returns-else-fit-clause-typed
returns-else-fit-clause-typed c = subst (λ (cs : List Constructor). AreTypesKnown c.args.terms.now cs c.args.indexed.now.vars c.terms_fit.new.typed) c.items-constructors.ensures c.in_ok-fit.ensures.typed
