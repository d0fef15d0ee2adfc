-- The names of the conditions that are left, beside those so far, are all.
use Rattle.std.proofs.Common.{◌≡◌, length, map}
use Rattle.ap_answers.specs.Occurring.{more_names}
use Rattle.ap_instance.specs.Settled.{name_of_cond}
use Rattle.ap_instance.proofs.names.add_names_of_conds.Given as goal

abbrev pub invariant-adding : goal.invariant-adding
invariant-adding l = more_names l.names.keys (map name_of_cond l.rest) ≡ more_names l.fn.names.keys (map name_of_cond l.fn.conds)

abbrev pub decreases-adding : goal.decreases-adding
decreases-adding l = length l.rest
