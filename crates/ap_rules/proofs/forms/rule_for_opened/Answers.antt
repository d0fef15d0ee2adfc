use Rattle.std.proofs.Common.{rules}
use Rattle.ap_rules.proofs.forms.rule_for_opened.Goals as goal
use Rattle.ap_rules.proofs.forms.rule_for_opened.Goals.{in_default-via-in-Unit+in_default, in_default-via-in-Name+in_default, in_default-via-in-Pair+in_default, in_default-via-in-App+in_default, in_default-via-in-Abs+in_default}

pub returns-clause-rule : goal.returns-clause-rule
returns-clause-rule c =
    elim c.in_default.branch [
      | in_default-via-in-Unit+in_default w ↦ search rules
      | in_default-via-in-Name+in_default w ↦ search rules
      | in_default-via-in-Pair+in_default w ↦ search rules
      | in_default-via-in-App+in_default w ↦ search rules
      | in_default-via-in-Abs+in_default w ↦ search rules
    ]
