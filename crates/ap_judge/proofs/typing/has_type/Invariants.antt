-- What waits decides, and what will be known is earned by it.
use Rattle.std.proofs.Common.{◌≡◌, map}
use Rattle.std.specs.List.{list_all, sum_by}
use Rattle.ap_defs.specs.Answers.{typed_var_of}
use Rattle.ap_defs.specs.Types.{constructor_of, type_of}
use Rattle.ap_defs.specs.Typing.{one}
use Rattle.ap_checks.specs.TypeTests.{is_typed, type_beside}
use Rattle.ap_shared.specs.Shared.{shared_at}
use Rattle.ap_shared.specs.SharedViews.{shared_terms}
use Rattle.ap_judge.specs.Typings.{AreEarned, AreTypesKnown, passes, task_size}
use Rattle.ap_judge.proofs.typing.has_type.Given as goal

abbrev pub invariant-loop-next : goal.invariant-loop-next
invariant-loop-next l = record {
  all :
      list_all (passes (shared_terms l.terms) (map constructor_of l.constructors) (type_beside (map typed_var_of l.answer.vars))) l.tasks.items
      ≡ is_typed (map constructor_of l.constructors) (type_beside (map typed_var_of l.answer.vars)) (shared_at (shared_terms l.terms) l.line) (one (type_of l.ty));
  earned : AreEarned (shared_terms l.terms) (map constructor_of l.constructors) (type_beside (map typed_var_of l.answer.vars)) l.tasks.items;
  typed : AreTypesKnown l.terms l.constructors l.answer.vars l.typed;
}

abbrev pub decreases-loop-next : goal.decreases-loop-next
decreases-loop-next l = sum_by (task_size (shared_terms l.terms)) l.tasks.items
