use Rattle.std.proofs.Common.{◌≡◌}
use Rattle.ap_defs.specs.Renaming.{IsBelow}
use Rattle.ap_defs.specs.Substitution.{under}
use Rattle.ap_perm.specs.Lookups.{depth_of}
use Rattle.ap_store.specs.Views.{bindings_of, present, rank}
use Rattle.ap_equations.specs.Plain.{plain_term}
use Rattle.ap_unify.proofs.heads.headed.Given as goal
use Rattle.ap_unify.specs.Parts.{IsMarkTrue}

-- the part stands for what the first one stood for, and is rightly known to be ground where that was
abbrev pub invariant-following : goal.invariant-following
invariant-following l = record {
  meaning : under (bindings_of l.store) (plain_term l.p) ≡ under (bindings_of l.store) (plain_term l.initial.p);
  mark : IsMarkTrue (bindings_of l.store) l.initial.p → IsMarkTrue (bindings_of l.store) l.p;
  below : IsBelow (present l.store).next (plain_term l.initial.p) → IsBelow (present l.store).next (plain_term l.p);
}

abbrev pub decreases-following : goal.decreases-following
decreases-following l = depth_of (rank l.store) (plain_term l.p)
