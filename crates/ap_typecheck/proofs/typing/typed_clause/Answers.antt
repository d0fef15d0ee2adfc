use Rattle.std.proofs.Common.{map, ap, ◌∙◌}
use Rattle.std.specs.Option.{option_map}
use Rattle.ap_defs.specs.Goals.{clause_over}
use Rattle.ap_defs.specs.RawTerms.{raw_of}
use Rattle.ap_defs.specs.Types.{kind_of}
use Rattle.ap_trees.specs.Trees.{goal_of_tree, trees_of}
use Rattle.ap_scopes.specs.Resolution.{predicate_number}
use Rattle.ap_scopes.specs.Views.{declared_of}
use Rattle.ap_typecheck.specs.Views.{clause_parts_of}
use Rattle.ap_typecheck.proofs.Refusals.{clause_made, clause_refused}
use Rattle.ap_typecheck.proofs.typing.typed_clause.Goals as goal

pub returns-in-Err-clause-err : goal.returns-in-Err-clause-err
returns-in-Err-clause-err c =
    clause_refused c.in-Err.refusal (declared_of c.args.declared.now) c.args.word.now (trees_of c.args.args) (option_map goal_of_tree c.args.body) c.predicate_number-pred.result (clause_parts_of c.in_ok-parts.parts)
    (c.predicate_number-pred.ensures ∙ ap predicate_number c.predicate_place.ensures) c.in_ok-parts.ensures c.in-Err.ensures.err

pub returns-in_ok-clause_with-in-Ok-clause-ok : goal.returns-in_ok-clause_with-in-Ok-clause-ok
returns-in_ok-clause_with-in-Ok-clause-ok c =
    clause_made (declared_of c.args.declared.now) c.args.place.item c.args.place.line c.args.word.now (trees_of c.args.args) (option_map goal_of_tree c.args.body) c.predicate_number-pred.result
    (clause_parts_of c.in_ok-parts.parts) (map kind_of c.in-Ok.kinds.items) (clause_over raw_of c.in_ok-clause_with-in-Ok.field-0) (c.predicate_number-pred.ensures ∙ ap predicate_number c.predicate_place.ensures)
    c.in_ok-parts.ensures c.in-Ok.ensures.ok c.in_ok-clause_with-in-Ok.ensures
