use Rattle.std.proofs.Common.{map}
use Rattle.ap_defs.specs.Goals.{query_over}
use Rattle.ap_defs.specs.RawTerms.{raw_of}
use Rattle.ap_defs.specs.Types.{kind_of}
use Rattle.ap_trees.specs.Trees.{goal_of_tree}
use Rattle.ap_scopes.specs.Views.{declared_of}
use Rattle.ap_typecheck.specs.Views.{query_parts_of}
use Rattle.ap_typecheck.proofs.Refusals.{query_made, query_refused}
use Rattle.ap_typecheck.proofs.typing.typed_query.Goals as goal

pub returns-in-Err-clause-err : goal.returns-in-Err-clause-err
returns-in-Err-clause-err c = query_refused c.in-Err.refusal (declared_of c.args.declared.now) (goal_of_tree c.args.goal) (query_parts_of c.in_ok-parts.parts) c.in_ok-parts.ensures c.in-Err.ensures.err

pub returns-in_ok-query_with-in-Ok-clause-ok : goal.returns-in_ok-query_with-in-Ok-clause-ok
returns-in_ok-query_with-in-Ok-clause-ok c =
    query_made (declared_of c.args.declared.now) c.args.place.item c.args.place.line (goal_of_tree c.args.goal) (query_parts_of c.in_ok-parts.parts) (map kind_of c.in-Ok.kinds.items)
    (query_over raw_of c.in_ok-query_with-in-Ok.field-0) c.in_ok-parts.ensures c.in-Ok.ensures.ok c.in_ok-query_with-in-Ok.ensures
