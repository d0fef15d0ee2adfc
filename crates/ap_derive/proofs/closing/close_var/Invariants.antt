-- The part leads to what the variable stands for, within what stands round it.
use Rattle.std.proofs.Common.{◌+◌, []}
use Rattle.ap_defs.specs.Answers.{closed_term}
use Rattle.ap_defs.specs.Terms.{susp}
use Rattle.ap_machine.specs.Views.{state_in}
use Rattle.ap_derive.specs.Closing.{LeadsToWhole, left_in_part, left_in_rounds}
use Rattle.ap_derive.proofs.closing.close_var.Given as goal

abbrev pub invariant-walking : goal.invariant-walking
invariant-walking l = LeadsToWhole l.store l.fn.closing l.closing l.rounds.items l.part (closed_term (state_in l.store) (susp [] l.fn.x))

abbrev pub decreases-walking : goal.decreases-walking
decreases-walking l = left_in_rounds l.store l.rounds.items + left_in_part l.store l.part
