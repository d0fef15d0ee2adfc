use Rattle.std.proofs.Common.{◌≡◌, drop}
use Rattle.ap_sides.specs.Brought.{are_fresh}
use Rattle.ap_judge.specs.Scopes.{environment_of}
use Rattle.ap_sides.proofs.newness.is_fresh_for_each.Given as goal

abbrev pub invariant-loop-x : goal.invariant-loop-x
invariant-loop-x l =
    are_fresh l.answer.conds l.c (environment_of l.scope) l.brought (drop l.x-index l.vars) ≡ are_fresh l.answer.conds l.c (environment_of l.scope) l.brought l.vars
