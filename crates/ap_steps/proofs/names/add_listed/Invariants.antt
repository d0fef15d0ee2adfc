-- With those that are left the ones so far are all.
use Rattle.std.proofs.Common.{◌≡◌, length}
use Rattle.ap_answers.specs.Occurring.{more_names}
use Rattle.ap_steps.proofs.names.add_listed.Given as goal

abbrev pub invariant-names : goal.invariant-names
invariant-names l = more_names l.names.keys l.rest ≡ more_names l.fn.names.keys l.fn.more

abbrev pub decreases-names : goal.decreases-names
decreases-names l = length l.rest
