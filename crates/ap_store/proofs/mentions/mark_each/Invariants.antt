-- what was marked is so still, and each variable is, unless it is left
use Rattle.std.proofs.Common.{◌≡◌, ◌⊎◌, ℕ, true, length}
use Rattle.ap_defs.specs.Unification.{has_var}
use Rattle.ap_defs.specs.declared.terms.Var.{Var}
use Rattle.ap_store.specs.Passed.{is_mark_at}
use Rattle.ap_store.proofs.mentions.mark_each.Given as goal

abbrev pub invariant-marking : goal.invariant-marking
invariant-marking l = record {
  stay : (i : ℕ) → is_mark_at l.initial.marks.items i ≡ true → is_mark_at l.marks.items i ≡ true;
  marked : (y : Var) → has_var y l.vars ≡ true → (is_mark_at l.marks.items y.num ≡ true) ⊎ (has_var y l.rest ≡ true);
}

abbrev pub decreases-marking : goal.decreases-marking
decreases-marking l = length l.rest
