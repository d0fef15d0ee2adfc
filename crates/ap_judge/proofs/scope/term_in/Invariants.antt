use Rattle.std.proofs.Common.{◌≡◌, take}
use Rattle.ap_judge.specs.Scopes.{environment_of}
use Rattle.ap_judge.proofs.scope.term_in.Given as goal

abbrev pub invariant-loop-i : goal.invariant-loop-i
invariant-loop-i l = (environment_of (take l.i l.scope)).terms l.x ≡ (environment_of l.scope).terms l.x
