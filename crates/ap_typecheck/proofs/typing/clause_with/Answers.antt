use Rattle.std.proofs.Common.{List, map, ap, ◌∙◌}
use Rattle.ap_defs.specs.Goals.{goal_over}
use Rattle.ap_defs.specs.RawTerms.{raw_of}
use Rattle.ap_defs.specs.Types.{kind_of}
use Rattle.ap_defs.specs.declared.goals.Kind.{Kind}
use Rattle.ap_kinds.specs.Sorts.{terms_with_sorts, goal_with_sorts}
use Rattle.ap_scopes.specs.Views.{identifier_of}
use Rattle.ap_scopes.specs.declared.identifiers.Identifier.{Identifier}
use Rattle.ap_typecheck.specs.Declaring.{with_kinds}
use Rattle.ap_typecheck.proofs.typing.clause_with.Goals as goal

pub returns : goal.returns
returns c =
    let args = c.in_ok-terms_with_sorts.ensures ∙ ap (λ (ks : List Kind). terms_with_sorts (map kind_of ks) (map raw_of c.args.parts.args)) c.as_slice.ensures.value in
    let body = c.in_ok-goal_with_sorts.ensures ∙ ap (λ (ks : List Kind). goal_with_sorts (map kind_of ks) (goal_over raw_of c.args.parts.body)) c.as_slice-2.ensures.value in
    let locals = c.in_ok-with_kinds.ensures ∙ ap (λ (is : List Identifier). with_kinds (map identifier_of is) (map kind_of c.args.kinds.items)) c.as_slice-3.ensures.value in
    λ j. record { item = c.args.place.item; line = c.args.place.line; pred = c.args.pred; args = args j; body = body j; locals = locals j }
