-- With those of the nodes that are left the ones so far are all.
use Rattle.std.proofs.Common.{◌≡◌, drop}
use Rattle.std.specs.List.{flat_map}
use Rattle.ap_answers.specs.Occurring.{more_names}
use Rattle.ap_steps.specs.Names.{derivations_of, own_names}
use Rattle.ap_steps.proofs.names.add_all_names.Given as goal

abbrev pub invariant-loop-i : goal.invariant-loop-i
invariant-loop-i l =
    more_names l.names.keys (flat_map own_names (derivations_of (drop l.i l.nodes))) ≡ more_names l.initial.names.keys (flat_map own_names (derivations_of l.nodes))
