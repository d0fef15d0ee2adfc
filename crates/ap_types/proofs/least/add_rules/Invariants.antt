-- What is left and the set so far say what all rules and the set before said.
use Rattle.std.proofs.Common.{◌+◌}
use Rattle.ap_types.specs.Rules.{RulesLead, rules_weight, later_weight}
use Rattle.ap_types.proofs.least.add_rules.Given as goal

abbrev pub invariant-loop-rule : goal.invariant-loop-rule
invariant-loop-rule l = RulesLead l.initial.left.items l.initial.least l.left.items l.least

abbrev pub decreases-loop-rule : goal.decreases-loop-rule
decreases-loop-rule l = rules_weight l.left.items + later_weight l.least.waiting.items
