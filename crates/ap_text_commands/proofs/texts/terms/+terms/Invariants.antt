use Rattle.std.proofs.Common.{◌+◌, ◌*◌}
use Rattle.ap_text_commands.proofs.texts.terms.+terms.Given as goal

abbrev pub decreases-write_term : goal.decreases-write_term
decreases-write_term l = 2 * l.height

abbrev pub decreases-write_lambda : goal.decreases-write_lambda
decreases-write_lambda l = 2 * l.height + 1

abbrev pub decreases-write_application : goal.decreases-write_application
decreases-write_application l = 2 * l.height + 1
