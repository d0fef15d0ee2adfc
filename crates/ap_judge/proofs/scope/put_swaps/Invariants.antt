use Rattle.std.proofs.Common.{◌≡◌, map, take}
use Rattle.ap_checks.specs.OpenEnvironments.{swap_in}
use Rattle.ap_judge.specs.Scopes.{environment_of}
use Rattle.ap_judge.proofs.scope.put_swaps.Given as goal

abbrev pub invariant-loop-s : goal.invariant-loop-s
invariant-loop-s l = l.all.items ≡ map (swap_in (environment_of l.scope)) (take l.s-index l.swaps)
