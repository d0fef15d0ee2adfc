-- The parts that are left decide.
use Rattle.std.proofs.Common.{◌≡◌, length, reverse}
use Rattle.std.specs.List.{sum_by}
use Rattle.ap_defs.specs.Goals.{goal_of}
use Rattle.ap_checks.specs.Checks.{is_new}
use Rattle.ap_checker.specs.NewNames.{is_new_inside, mark_of_part, size_of_part}
use Rattle.ap_judge.specs.Scopes.{environment_of}
use Rattle.ap_judge.specs.Stacks.{AreWithin, all_waiting}
use Rattle.ap_checker.proofs.new_names.is_new.Given as goal

abbrev pub invariant-parts : goal.invariant-parts
invariant-parts l = record {
  all : all_waiting mark_of_part (is_new_inside l.answer.conds l.c (environment_of l.scope)) l.parts.brought.items (reverse l.parts.pending.items)
      ≡ is_new l.answer.conds l.c (goal_of l.goal) (environment_of l.scope);
  within : AreWithin mark_of_part (length l.parts.brought.items) (reverse l.parts.pending.items);
}

abbrev pub decreases-parts : goal.decreases-parts
decreases-parts l = sum_by size_of_part l.parts.pending.items
