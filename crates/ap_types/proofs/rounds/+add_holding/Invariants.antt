-- Where rules are added that say what is left of the type, all rules say what the type does.
use Rattle.std.proofs.Common.{◌≤◌, List}
use Rattle.ap_defs.specs.Types.{type_of}
use Rattle.ap_defs.proofs.SpineLemmas.{type_size}
use Rattle.ap_types.specs.declared.least.Rule.{Rule}
use Rattle.ap_types.specs.Holding.{holds_if}
use Rattle.ap_types.specs.Rules.{Adds}
use Rattle.ap_types.proofs.rounds.+add_holding.Given as goal

abbrev pub decreases-add_holding : goal.decreases-add_holding
decreases-add_holding l = type_size (type_of l.ty.now)

abbrev pub invariant-loop-rest : goal.invariant-loop-rest
invariant-loop-rest l = record {
  all : (new : List Rule) → Adds l.rules.items new (λ p. holds_if l.sort p (type_of l.rest)) l.gives
      → Adds l.fn.rules.items new (λ p. holds_if l.fn.sort p (type_of l.fn.ty)) l.fn.gives;
  smaller : type_size (type_of l.rest) ≤ type_size (type_of l.fn.ty);
}

abbrev pub decreases-loop-rest : goal.decreases-loop-rest
decreases-loop-rest l = type_size (type_of l.rest)
