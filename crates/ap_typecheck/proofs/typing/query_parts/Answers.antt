use Rattle.std.proofs.Common.{[], ap, ◌∙◌}
use Rattle.ap_defs.specs.Goals.{goal_over}
use Rattle.ap_defs.specs.RawTerms.{raw_of}
use Rattle.ap_trees.specs.Trees.{goal_of_tree}
use Rattle.ap_scopes.specs.Identifiers.{Found}
use Rattle.ap_scopes.specs.Resolution.{resolved_goal}
use Rattle.ap_scopes.specs.Views.{declared_of}
use Rattle.ap_typecheck.proofs.typing.query_parts.Goals as goal

pub returns : goal.returns
returns c =
    let whole = goal_over raw_of c.in_ok-goal.goal in
    ap (λ (fs : Found). (whole, fs)) c.into_found.ensures ∙ c.in_ok-goal.ensures.value
    ∙ ap (resolved_goal (declared_of c.args.declared.now) [] (goal_of_tree c.args.goal)) c.new-found.ensures.value
