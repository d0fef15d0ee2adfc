use Rattle.std.proofs.Common.{◌≡◌, drop}
use Rattle.ap_sides.specs.Brought.{are_apart}
use Rattle.ap_judge.specs.Scopes.{environment_of}
use Rattle.ap_sides.proofs.newness.stands_for_none.Given as goal

abbrev pub invariant-loop-b : goal.invariant-loop-b
invariant-loop-b l = are_apart l.c (environment_of l.scope) l.brought (drop l.b-index l.names) ≡ are_apart l.c (environment_of l.scope) l.brought l.names
