use Rattle.std.proofs.Common.{◌≡◌, map, take}
use Rattle.ap_defs.specs.Terms.{term_of}
use Rattle.ap_checks.specs.OpenEnvironments.{put_in}
use Rattle.ap_judge.specs.Scopes.{environment_of}
use Rattle.ap_judge.proofs.scope.put_each.Given as goal

abbrev pub invariant-loop-t : goal.invariant-loop-t
invariant-loop-t l = map term_of l.all.items ≡ map (put_in (environment_of l.scope)) (map term_of (take l.t-index l.terms))
