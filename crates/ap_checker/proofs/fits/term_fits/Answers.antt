use Rattle.std.proofs.Common.{◌≡◌, map, IfOk, Some, sym, ap, subst, ◌∙◌}
use Rattle.ap_defs.specs.Answers.{typed_var_of}
use Rattle.ap_shared.specs.SharedPlaces.{shared_term}
use Rattle.ap_defs.specs.Types.{constructor_of, kind_of}
use Rattle.ap_checks.specs.TypeTests.{has_kind, type_beside}
use Rattle.ap_judge.proofs.LocalLemmas.{kind_there}
use Rattle.ap_checker.proofs.fits.term_fits.Goals as goal

pub returns-in-Name-clause-fits : goal.returns-in-Name-clause-fits
returns-in-Name-clause-fits c =
    sym (ap (λ k. has_kind (map constructor_of c.args.constructors.now) (type_beside (map typed_var_of c.args.answer.now.vars)) k (shared_term c.args.term))
    (kind_there c.args.locals.now c.args.x.num c.index-locals-place.result c.if-place-locals.false ∙ ap (λ k. Some (kind_of k)) c.in-Name.is))

pub returns-in-Var-clause-fits : goal.returns-in-Var-clause-fits
returns-in-Var-clause-fits c =
    subst (λ v. IfOk c.has_type.result (λ yes. yes ≡ v))
    (sym (ap (λ k. has_kind (map constructor_of c.args.constructors.now) (type_beside (map typed_var_of c.args.answer.now.vars)) k (shared_term c.args.term))
    (kind_there c.args.locals.now c.args.x.num c.index-locals-place.result c.if-place-locals.false ∙ ap (λ k. Some (kind_of k)) c.in-Var.is)))
    c.has_type.ensures.value
