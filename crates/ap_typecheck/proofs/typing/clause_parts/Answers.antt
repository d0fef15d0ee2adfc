use Rattle.std.proofs.Common.{[], map, ap, ◌∙◌}
use Rattle.std.specs.Option.{option_map}
use Rattle.ap_defs.specs.Goals.{goal_over}
use Rattle.ap_defs.specs.RawTerms.{raw_of}
use Rattle.ap_trees.specs.Trees.{goal_of_tree, trees_of}
use Rattle.ap_scopes.specs.Identifiers.{Found}
use Rattle.ap_scopes.specs.Resolution.{head_and_body, in_order, resolved_body, resolved_terms}
use Rattle.ap_scopes.specs.Views.{declared_of, found_of}
use Rattle.ap_scopes.proofs.Orders.{in_order_is}
use Rattle.ap_typecheck.proofs.typing.clause_parts.Goals as goal

pub returns : goal.returns
returns c =
    let terms = resolved_terms (declared_of c.args.declared.now) [] (trees_of c.args.args) in
    let body = resolved_body (declared_of c.args.declared.now) (option_map goal_of_tree c.args.body) in
    let args = map raw_of c.in_ok-args.args in
    let whole = goal_over raw_of c.in_ok-body.body in
    ap (λ (fs : Found). ((args, whole), fs)) c.into_found.ensures
    ∙ in_order_is head_and_body terms body (found_of c.new-found.result) (found_of c.own_terms.new.found) (found_of c.own_body.new.found) args whole c.in_ok-args.ensures.value c.in_ok-body.ensures.value
    ∙ ap (in_order head_and_body terms body) c.new-found.ensures.value
