use Rattle.std.proofs.Common.{◌≡◌, None, Some, sym, ap, map, ◌∙◌}
use Rattle.ap_shared.specs.declared.derivations.SharedAnswer.{SharedAnswer}
use Rattle.ap_defs.specs.Answers.{typed_var_of}
use Rattle.ap_checks.specs.TypeTests.{type_beside}
use Rattle.ap_judge.specs.Indexes.{place_from}
use Rattle.ap_judge.proofs.IndexLemmas.{none_beside, place_within}
use Rattle.ap_judge.proofs.index.IndexedAnswer.type_beside.Goals as goal

pub type_at-requires : goal.type_at-requires
type_at-requires c =
    rw c.items.ensures (place_within c.self.inside.answer.now.vars c.args.x.num c.in-Some.place.now (sym (c.in-Some.ensures.value ∙ c.self.invariant.places c.args.x.num)))

pub returns-in-None : goal.returns-in-None
returns-in-None c =
    let none : place_from 0 c.self.inside.answer.now.vars c.args.x.num ≡ None = sym (c.in-None.ensures.value ∙ c.self.invariant.places c.args.x.num) in
    ap (λ (a : SharedAnswer). type_beside (map typed_var_of a.vars) c.args.x) (sym c.self.view_is) ∙ none_beside 0 c.self.inside.answer.now.vars c.args.x none

pub returns-in-Some : goal.returns-in-Some
returns-in-Some c =
    let there : place_from 0 c.self.inside.answer.now.vars c.args.x.num ≡ Some c.in-Some.place.now = sym (c.in-Some.ensures.value ∙ c.self.invariant.places c.args.x.num) in
    ap (λ (a : SharedAnswer). type_beside (map typed_var_of a.vars) c.args.x) (sym c.self.view_is) ∙ (rw c.items.ensures at (c.type_at.ensures c.args.x)) there
