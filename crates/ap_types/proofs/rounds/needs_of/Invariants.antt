-- All are inhabited where the needs so far are in and those that are left are inhabited.
use Rattle.std.proofs.Common.{◌≡◌, ◌&&◌, ℕ, Bool, map, drop}
use Rattle.ap_defs.specs.Types.{type_of}
use Rattle.ap_types.specs.Inhabited.{all_inhabited}
use Rattle.ap_types.specs.Rules.{all_are_in}
use Rattle.ap_types.proofs.rounds.needs_of.Given as goal

abbrev pub invariant-loop-ty : goal.invariant-loop-ty
invariant-loop-ty l = (p : ℕ → Bool) → (all_are_in p l.needs.items && all_inhabited p (map type_of (drop l.ty-index l.args))) ≡ all_inhabited p (map type_of l.args)
