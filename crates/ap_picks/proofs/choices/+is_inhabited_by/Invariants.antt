-- What is left of the type decides.
use Rattle.std.proofs.Common.{◌≡◌, ◌≤◌}
use Rattle.ap_defs.specs.declared.terms.Ty.TheViews.{size-Ty}
use Rattle.ap_defs.specs.Types.{type_of}
use Rattle.ap_types.specs.Inhabited.{inhabited_if}
use Rattle.ap_types.specs.Rounds.{marked}
use Rattle.ap_picks.proofs.choices.+is_inhabited_by.Given as goal

abbrev pub decreases-is_inhabited_by : goal.decreases-is_inhabited_by
decreases-is_inhabited_by l = size-Ty l.ty.now

abbrev pub invariant-loop-rest : goal.invariant-loop-rest
invariant-loop-rest l = record {
  all : inhabited_if (marked l.found) (type_of l.rest) ≡ inhabited_if (marked l.fn.found) (type_of l.fn.ty);
  smaller : size-Ty l.rest ≤ size-Ty l.fn.ty;
}

abbrev pub decreases-loop-rest : goal.decreases-loop-rest
decreases-loop-rest l = size-Ty l.rest
