use Rattle.std.proofs.Common.{◌≡◌, ap, subst, sym, ◌∙◌}
use Rattle.std.specs.Prelude.{◌↔◌, IsTrue}
use Rattle.ap_defs.specs.Terms.{NominalTerm, app, term_of}
use Rattle.ap_defs.specs.declared.terms.Term.{Term}
use Rattle.ap_store.specs.Marks.{IsConstant}
use Rattle.ap_store.proofs.occurrences.is_constant.Goals as goal

pub returns-in-App : goal.returns-in-App
returns-in-App c =
    let f = c.in-App.field-0 in
    let e : term_of c.args.t.now ≡ app f (term_of c.deref.result.now) = ap term_of c.in-App.is ∙ ap (λ (u : Term). app f (term_of u)) (sym c.deref.ensures) in
    subst (λ (u : NominalTerm). IsTrue c.is_unit.result ↔ IsConstant u) (sym e) c.is_unit.ensures
