-- What must be in so far, and for what is left, is all.
use Rattle.std.proofs.Common.{◌≡◌, ◌≤◌, ℕ, Bool, ◌&&◌}
use Rattle.ap_defs.specs.declared.terms.Ty.TheViews.{size-Ty}
use Rattle.ap_defs.specs.Types.{type_of}
use Rattle.ap_types.specs.Inhabited.{inhabited_if}
use Rattle.ap_types.specs.Rules.{all_are_in}
use Rattle.ap_types.proofs.rounds.+add_needs.Given as goal

abbrev pub decreases-add_needs : goal.decreases-add_needs
decreases-add_needs l = size-Ty l.ty.now

abbrev pub invariant-loop-rest : goal.invariant-loop-rest
invariant-loop-rest l = record {
  all : (p : ℕ → Bool) → (all_are_in p l.needs.items && inhabited_if p (type_of l.rest)) ≡ (all_are_in p l.fn.needs.items && inhabited_if p (type_of l.fn.ty));
  smaller : size-Ty l.rest ≤ size-Ty l.fn.ty;
}

abbrev pub decreases-loop-rest : goal.decreases-loop-rest
decreases-loop-rest l = size-Ty l.rest
