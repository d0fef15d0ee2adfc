-- With the paths of what waits the choices are all.
use Rattle.std.proofs.Common.{◌≡◌, ◌++◌}
use Rattle.ap_defs.specs.Derivations.{derivation_of, path}
use Rattle.ap_cover.specs.Waiting.{paths_waiting, weight_waiting}
use Rattle.ap_cover.proofs.path.path_of.Given as goal

abbrev pub invariant-walking : goal.invariant-walking
invariant-walking l = l.choices.items ++ paths_waiting l.waiting.items ≡ path (derivation_of l.fn.derivation)

abbrev pub decreases-walking : goal.decreases-walking
decreases-walking l = weight_waiting l.waiting.items
