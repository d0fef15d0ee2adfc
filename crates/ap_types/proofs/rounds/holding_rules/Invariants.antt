-- The rules so far say what the arguments so far hold.
use Rattle.std.proofs.Common.{[], map, take}
use Rattle.ap_defs.specs.Types.{type_of}
use Rattle.ap_types.specs.Holding.{some_holds}
use Rattle.ap_types.specs.Rules.{Adds}
use Rattle.ap_types.proofs.rounds.holding_rules.Given as goal

abbrev pub invariant-loop-ty : goal.invariant-loop-ty
invariant-loop-ty l = Adds [] l.rules.items (λ p. some_holds l.sort p (map type_of (take l.ty-index l.args))) l.gives
