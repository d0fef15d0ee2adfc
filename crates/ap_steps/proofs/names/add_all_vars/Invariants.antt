-- With those of the nodes that are left the ones so far are all.
use Rattle.std.proofs.Common.{◌≡◌, drop}
use Rattle.std.specs.List.{flat_map}
use Rattle.ap_answers.specs.Occurring.{more_vars}
use Rattle.ap_steps.specs.Names.{derivations_of, own_vars}
use Rattle.ap_steps.proofs.names.add_all_vars.Given as goal

abbrev pub invariant-loop-i : goal.invariant-loop-i
invariant-loop-i l =
    more_vars l.vars.keys (flat_map own_vars (derivations_of (drop l.i l.nodes))) ≡ more_vars l.initial.vars.keys (flat_map own_vars (derivations_of l.nodes))
